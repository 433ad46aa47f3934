use Rattle.osm_entity.specs.Sources.{tags_left}
use Rattle.osm_entity.specs.Views.{node_of}
use Rattle.pbf_dense.proofs.DenseOutLemmas.{RunPut}
use Rattle.pbf_dense.proofs.dense_out.push_each_tag.Given as goal

abbrev pub invariant-loop-key : goal.invariant-loop-key
invariant-loop-key g l = record {
  can : (goal.iterator-loop-key g).can_next l.key-iterator;
  ends : (goal.iterator-loop-key g).is_finite l.key-iterator;
  so_far : RunPut l.fn.table (node_of l.fn.node).tags l.fn.runs l.table l.runs (tags_left l.key-iterator);
}
