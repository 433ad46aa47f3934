use Rattle.std.proofs.Common.{◌≡◌, ◌∙◌, ◌∷◌, ap, map, string_bytes, sym}
use Rattle.pbfcut_cli.specs.Joined.{box_joined}
use Rattle.pbfcut_cli.proofs.Joining.{joined_one, joined_two}
use Rattle.pbfcut_cli.proofs.joined.join_first.Goals as goal

pub returns-then-begins_with_box-clause-joined : goal.returns-then-begins_with_box-clause-joined
returns-then-begins_with_box-clause-joined c =
    let parts : map string_bytes c.args.after.now ≡ string_bytes c.in-Some.edges.now ∷ map string_bytes c.in-Some.rest.now = ap (map string_bytes) c.in-Some.ensures.cases.0 in
    let both = joined_two c.args.first.now _ _ _ parts (sym c.if-begins_with_box.ensures) in
    ap (λ t. t ∷ box_joined (map string_bytes c.in-Some.rest.now)) c.in_ok-format.ensures.ok ∙ sym both

pub returns-clause-joined : goal.returns-clause-joined
returns-clause-joined c =
    let alone = joined_one c.args.first.now (map string_bytes c.args.after.now) (sym c.if-begins_with_box.ensures) in
    ap (λ t. t ∷ box_joined (map string_bytes c.args.after.now)) c.in_ok-from_str.ensures.ok ∙ sym alone
