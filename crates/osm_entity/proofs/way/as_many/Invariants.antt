use Rattle.std.proofs.Common.{◌≡◌, ◌+◌, length}
use Rattle.osm_entity.specs.Sources.{refs_left, locations_left}
use Rattle.osm_entity.proofs.way.as_many.Given as goal

-- as many of both were taken
abbrev pub invariant-loop-reference : goal.invariant-loop-reference
invariant-loop-reference l = record {
  can : (goal.iterator-loop-reference).can_next l._reference-iterator;
  ends : (goal.iterator-loop-reference).is_finite l._reference-iterator;
  so_far : length (locations_left l.rest) + length (refs_left l.fn.refs) ≡ length (refs_left l._reference-iterator) + length (locations_left l.fn.locations);
}
