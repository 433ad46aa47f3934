use Rattle.std.proofs.Common.{arith}
use Rattle.std.proofs.Common.{rules, w64}
use Rattle.std.specs.FinSet as set
use Rattle.std.proofs.lemmas.Int.{to_z-of_z}
use Rattle.std.proofs.Math.Bool.{or-true}
use Rattle.osm_ways.proofs.Shown.{insert_known, union-insert}
use Rattle.osm_ways.proofs.phases.add_refs_of.Goals as goal

pub returns-clause-kept : goal.returns-clause-kept
returns-clause-kept g c = grind (arith, c.in-Some.ensures.steps, or-true (set.contains (g.I.IdLookup.ids c.args.known.now) c.in-Some.first), to_z-of_z w64 c.in-Some.first (search rules))

pub returns-clause-sets : goal.returns-clause-sets
returns-clause-sets g c = grind (arith, c.in-Some.ensures.steps, to_z-of_z w64 c.in-Some.first (search rules), union-insert (g.I.IdLookup.ids c.args.known.now) c.args.ids.now c.in-Some.first, insert_known (g.I.IdLookup.ids c.args.known.now) c.args.ids.now c.in-Some.first, c.in_ok-add_refs.ensures {u = tt})
