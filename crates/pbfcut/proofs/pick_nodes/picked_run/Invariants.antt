use Rattle.std.proofs.Common.{◌≡◌, ◌≤◌, drop, take, length, true}
use Rattle.pbf_wire.specs.Cursors.{sums_left}
use Rattle.pbf_dense.specs.Cursors.{dense_left}
use Rattle.pbf_dense.specs.Places.{BeginWithIds}
use Rattle.pbfcut.proofs.NodeLemmas.{ArePicked}
use Rattle.pbfcut.proofs.pick_nodes.picked_run.Given as goal

-- the ids that are left are those of the nodes after so many, all of which are picked
abbrev pub invariant-ids : goal.invariant-ids
invariant-ids l = record {
  picker : l.picker ≡ l.fn.picker;
  few : l.run ≤ l.most;
  ids_are : BeginWithIds (sums_left l.ids) (drop l.run (dense_left l.dense));
  picked : ArePicked l.fn.picker true (take l.run (dense_left l.dense));
}

abbrev pub decreases-ids : goal.decreases-ids
decreases-ids l = length (sums_left l.ids)
