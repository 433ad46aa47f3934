use Rattle.std.proofs.Common.{◌↔◌}
use Rattle.std.specs.List.{AllByRecursion}
use Rattle.osm_entity.specs.Sources.{locations_left}
use Rattle.osm_entity.specs.Ranges.{LocationFits}
use Rattle.osm_entity.proofs.weight.locations_fit.Given as goal

-- all are in range exactly if those that are left are
abbrev pub invariant-loop-lat : goal.invariant-loop-lat
invariant-loop-lat l = record {
  can : (goal.iterator-loop-lat).can_next l.lat-iterator;
  ends : (goal.iterator-loop-lat).is_finite l.lat-iterator;
  so_far : AllByRecursion LocationFits (locations_left l.lat-iterator) ↔ AllByRecursion LocationFits (locations_left l.fn.locations);
}
