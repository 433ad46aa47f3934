use Rattle.std.proofs.Common.{arith, false, sym, ap, ◌∙◌, rules, w64}
use Rattle.std.specs.FinSet as set
use Rattle.std.proofs.lemmas.Int.{to_z-of_z}
use Rattle.osm_ids.proofs.OrderLemmas.{empty_late, new_late}
use Rattle.osm_ids.proofs.set.IdSetIdLookup.has_near.Goals as goal

pub has-requires : goal.has-requires
has-requires c = grind (arith, empty_late c.self.inside.pages c.self.inside.late.keys (search rules))

pub returns-then-is_empty-clause-has : goal.returns-then-is_empty-clause-has
returns-then-is_empty-clause-has c = grind (arith, to_z-of_z w64 c.args.id c.ranges.id, c.has.ensures.has, empty_late c.self.inside.pages c.self.inside.late.keys (search rules), c.self.view_is)

pub returns-then-is_empty-clause-of : goal.returns-then-is_empty-clause-of
returns-then-is_empty-clause-of c = grind (arith, empty_late c.self.inside.pages c.self.inside.late.keys (search rules), c.self.view_is)

pub returns-then-has-clause-has : goal.returns-then-has-clause-has
returns-then-has-clause-has c = grind (arith, set.members, to_z-of_z w64 c.args.id c.ranges.id, c.has-2.ensures, c.if-has.true, c.self.view_is)

pub returns-else-has-clause-has : goal.returns-else-has-clause-has
returns-else-has-clause-has c = grind (arith, to_z-of_z w64 c.args.id c.ranges.id, c.if-has.false, c.contains.ensures, new_late c.self.inside.pages c.self.inside.late.keys c.args.id (ap (set.contains c.self.inside.pages) (sym (to_z-of_z w64 c.args.id c.ranges.id)) ∙ sym c.has-2.ensures ∙ c.if-has.false))
