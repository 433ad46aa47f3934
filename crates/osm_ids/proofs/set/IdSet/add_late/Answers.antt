use Rattle.std.proofs.Common.{arith, true, false, sym, subst, w64}
use Rattle.std.specs.FinSet as set
use Rattle.std.proofs.lemmas.Int.{to_z-of_z}
use Rattle.osm_ids.specs.Order.{IsReached}
use Rattle.osm_ids.proofs.Sets.{Ids}
use Rattle.osm_ids.proofs.OrderLemmas.{late_insert, new_late, insert-with_late}
use Rattle.osm_ids.proofs.Closing.{insert_same}
use Rattle.osm_ids.proofs.Remembering.{reached_laid}
use Rattle.osm_ids.proofs.set.IdSet.add_late.Goals as goal

pub returns-then-find-clause-new : goal.returns-then-find-clause-new
returns-then-find-clause-new c = grind (arith, set.members, to_z-of_z w64 c.args.id c.ranges.id, c.find.ensures.told.there, c.if-find.true, c.self.view_is)

pub returns-then-find-clause-ok : goal.returns-then-find-clause-ok
returns-then-find-clause-ok c = grind (arith, to_z-of_z w64 c.args.id c.ranges.id, c.find.ensures.told.there, c.if-find.true, c.self.view_is, insert_same c.args.self.now c.args.id (grind (arith, set.members, to_z-of_z w64 c.args.id c.ranges.id, c.find.ensures.told.there, c.if-find.true, c.self.view_is)))

pub invariant_of-self-2 : goal.invariant_of-self-2
invariant_of-self-2 c = grind (arith, to_z-of_z w64 c.args.id c.ranges.id, reached_laid c.self.inside.pages c.self.inside.late.keys c.args.id c.self.invariant.0 (subst (λ (s : Ids). IsReached s c.args.id) (sym c.self.view_is) c.requires), late_insert c.self.inside.pages c.self.inside.late.keys c.args.id c.self.invariant.0)

pub returns-clause-new : goal.returns-clause-new
returns-clause-new c = grind (arith, to_z-of_z w64 c.args.id c.ranges.id, c.find.ensures.told.there, c.if-find.false, c.in_ok-insert.ensures.added, new_late c.self.inside.pages c.self.inside.late.keys c.args.id (grind (arith, to_z-of_z w64 c.args.id c.ranges.id, c.find.ensures.told.there, c.if-find.false)), c.self.view_is)

pub returns-clause-ok : goal.returns-clause-ok
returns-clause-ok c = grind (arith, to_z-of_z w64 c.args.id c.ranges.id, c.in_ok-insert.ensures.keys, insert-with_late c.self.inside.pages c.self.inside.late.keys c.args.id, c.self.view_is)

pub invariant_of-self-in_err-insert : goal.invariant_of-self-in_err-insert
invariant_of-self-in_err-insert c = grind (arith, c.find.ensures.kept)
