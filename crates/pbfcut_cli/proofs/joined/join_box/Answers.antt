use Rattle.std.proofs.Common.{◌≡◌, ◌∙◌, [], ◌++◌, ap, map, string_bytes, sym}
use Rattle.std.proofs.lemmas.List.{append-nil}
use Rattle.pbfcut_cli.specs.Joined.{box_joined}
use Rattle.pbfcut_cli.proofs.Joining.{joined_none}
use Rattle.pbfcut_cli.proofs.joined.join_box.Goals as goal

pub returns : goal.returns
returns c =
    let done = map string_bytes c.loop-first.joined.items in
    let none : box_joined (map string_bytes c.loop-first.rest.now) ≡ [] =
    joined_none string_bytes c.loop-first.rest.now c.in_default.ensures.cases in
    sym (append-nil done) ∙ ap (λ t. done ++ t) (sym none) ∙ c.loop-first.invariant
