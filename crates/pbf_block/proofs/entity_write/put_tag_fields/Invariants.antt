use Rattle.osm_entity.specs.Sources.{tags_left}
use Rattle.pbf_block.proofs.EntityLemmas.{ArePut}
use Rattle.pbf_block.proofs.entity_write.put_tag_fields.Given as goal

abbrev pub invariant-loop-key : goal.invariant-loop-key
invariant-loop-key g l = record {
  can : (goal.iterator-loop-key g).can_next l.key-iterator;
  ends : (goal.iterator-loop-key g).is_finite l.key-iterator;
  so_far : ArePut l.fn.table (tags_left l.fn.tags) l.table l.keys l.values (tags_left l.key-iterator);
}
