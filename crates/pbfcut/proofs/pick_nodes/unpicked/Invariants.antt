use Rattle.std.proofs.Common.{◌≡◌, ◌≤◌, drop, take, length, false}
use Rattle.pbf_wire.specs.Cursors.{sums_left}
use Rattle.pbf_dense.specs.Cursors.{AreIdsAfter, dense_left}
use Rattle.pbf_dense.specs.Places.{BeginWithIds}
use Rattle.pbfcut.proofs.NodeLemmas.{ArePicked}
use Rattle.pbfcut.proofs.pick_nodes.unpicked.Given as goal

-- the ids that are left are those of the nodes after so many, of which none is picked
abbrev pub invariant-ids : goal.invariant-ids
invariant-ids l = record {
  picker : l.picker ≡ l.fn.picker;
  few : l.count ≤ 8000;
  ids_are : BeginWithIds (sums_left l.ids) (drop l.count (dense_left l.dense));
  after : AreIdsAfter l.count l.dense l.ids;
  none : ArePicked l.fn.picker false (take l.count (dense_left l.dense));
}

abbrev pub decreases-ids : goal.decreases-ids
decreases-ids l = length (sums_left l.ids)
