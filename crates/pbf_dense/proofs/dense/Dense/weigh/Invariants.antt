use Rattle.std.proofs.Common.{◌≡◌, ◌-◌, ◌≤◌, map}
use Rattle.pbf_wire.specs.Cursors.{numbers_left, sums_left}
use Rattle.osm_entity.specs.Sources.{low_32}
use Rattle.pbf_dense.proofs.SteadyLemmas.{AreWeighed}
use Rattle.pbf_dense.proofs.dense.Dense.weigh.Given as goal

abbrev pub invariant-nodes : goal.invariant-nodes
invariant-nodes l = record {
  few : l.count ≤ l.most;
  light : l.weight ≤ l.most_weight;
  table : l.weights.table ≡ l.self.table;
  weighed : AreWeighed l.self.table.now (sums_left l.self.info.users) (map low_32 (numbers_left l.self.keys_vals)) (sums_left l.weights.users) (map low_32 (numbers_left l.weights.keys_vals)) l.count l.weight;
}

abbrev pub decreases-nodes : goal.decreases-nodes
decreases-nodes l = l.most - l.count
