use Rattle.std.proofs.Common.{◌≡◌, sym, ap, ◌∙◌, rules, w64, to_z}
use mir.Val.{SFits}
use Rattle.std.proofs.lemmas.Int.{to_z-of_z}
use Rattle.pbf_dense.proofs.TextLemmas.{known_gives}
use Rattle.pbf_dense.proofs.take_users.UserIndexes.index_of.Goals as goal

-- the user of the node before
pub returns-then-self-user-clause-given : goal.returns-then-self-user-clause-given
returns-then-self-user-clause-given g c =
    let last = c.args.self.now.user in
    let fits : SFits w64 last = search rules in
    let same : last ≡ c.args.user = sym (to_z-of_z w64 last fits) ∙ ap (to_z w64) c.if-self-user.true ∙ to_z-of_z w64 c.args.user c.ranges.user in
    known_gives c.args.self.now.texts.now c.args.table.now last c.args.user c.args.self.now.index c.requires.known c.if-self-gt0.true same
