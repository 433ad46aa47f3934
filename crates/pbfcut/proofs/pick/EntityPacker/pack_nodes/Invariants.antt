use Rattle.std.proofs.Common.{length}
use Rattle.pbf_dense.specs.Cursors.{dense_left}
use Rattle.pbfcut.specs.Many.{AreEven}
use Rattle.pbfcut.proofs.NodeLemmas.{OnNodes}
use Rattle.pbfcut.proofs.pick.EntityPacker.pack_nodes.Given as goal

-- what is picked of the nodes that are gone was packed
abbrev pub invariant-nodes : goal.invariant-nodes
invariant-nodes g l = record {
  on : OnNodes g.D.Drain l.initial.self (dense_left l.dense) l.initial.packer (dense_left l.left.nodes) l.self l.packer;
  even : AreEven l.left.alike (dense_left l.left.nodes);
}

abbrev pub decreases-nodes : goal.decreases-nodes
decreases-nodes g l = length (dense_left l.left.nodes)
