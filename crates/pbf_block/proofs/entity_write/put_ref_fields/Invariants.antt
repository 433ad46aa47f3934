use Rattle.std.proofs.Common.{◌≡◌, ◌++◌}
use Rattle.std.specs.List.{AllByRecursion}
use Rattle.osm_entity.specs.Sources.{refs_left}
use Rattle.osm_entity.specs.Ranges.{IsStored}
use Rattle.pbf_block.proofs.entity_write.put_ref_fields.Given as goal

-- the refs so far and those that are left are all
abbrev pub invariant-loop-reference : goal.invariant-loop-reference
invariant-loop-reference l = record {
  can : (goal.iterator-loop-reference).can_next l.reference-iterator;
  ends : (goal.iterator-loop-reference).is_finite l.reference-iterator;
  fits : AllByRecursion IsStored (refs_left l.reference-iterator);
  so_far : l.column ++ refs_left l.reference-iterator ≡ refs_left l.fn.refs;
}
