use Rattle.std.proofs.Common.{◌≡◌}
use Rattle.pbf_wire.specs.Least.{lesser, least}
use Rattle.pbf_dense.specs.Cursors.{dense_left}
use Rattle.pbf_dense.specs.Judged.{dense_weights}
use Rattle.pbf_dense.proofs.dense.Dense.judge_nodes.Given as goal

abbrev pub invariant-loop-node : goal.invariant-loop-node
invariant-loop-node l = record {
  can : (goal.iterator-loop-node).can_next l.node-iterator;
  ends : (goal.iterator-loop-node).is_finite l.node-iterator;
  so_far : lesser l.least (least (dense_weights l.place (dense_left l.node-iterator))) ≡ least (dense_weights l.place (dense_left l.self));
}
