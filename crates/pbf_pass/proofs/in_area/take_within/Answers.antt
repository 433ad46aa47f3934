use Rattle.std.proofs.Common.{arith}
use Rattle.std.proofs.Common.{rules}
use Rattle.osm_area.specs.Area.{box_area}
use Rattle.pbf_dense.specs.Cursors.{dense_left}
use Rattle.pbf_pass.specs.Pass.{with_seen}
use Rattle.pbf_pass.proofs.GatherLemmas.{none_within, some_within}
use Rattle.pbf_pass.proofs.in_area.take_within.Goals as goal

pub returns-then-is_empty : goal.returns-then-is_empty
returns-then-is_empty g c whole = grind (arith, none_within (with_seen whole (box_area c.args.within.area) g.P.NodeTaker.step) c.places.result c.next-first.new.self c.next-first.result c.args.phase.now (dense_left c.args.dense.now) c.next-first.ensures.steps (search rules) c.places.ensures)

pub returns : goal.returns
returns g c whole = grind (arith, some_within whole g.P.NodeTaker.step c.take_outside.ensures.alike c.args.within.area c.places.result c.next-first.new.self c.next-first.result c.args.phase.now c.take_outside.new.self (dense_left c.args.dense.now) c.next-first.ensures.steps (search rules) c.places.ensures c.take_outside.ensures.taken)
