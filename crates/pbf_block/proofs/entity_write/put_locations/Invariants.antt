use Rattle.std.proofs.Common.{◌≡◌, ◌++◌, map}
use Rattle.std.specs.List.{AllByRecursion}
use Rattle.osm_entity.specs.Sources.{locations_left}
use Rattle.osm_entity.specs.Ranges.{LocationFits}
use Rattle.pbf_block.proofs.entity_write.put_locations.Given as goal

-- the numbers so far and those that are left are all
abbrev pub invariant-loop-lat : goal.invariant-loop-lat
invariant-loop-lat l = record {
  can : (goal.iterator-loop-lat).can_next l.lat-iterator;
  ends : (goal.iterator-loop-lat).is_finite l.lat-iterator;
  fits : AllByRecursion LocationFits (locations_left l.lat-iterator);
  lats : l.lats ++ map (λ p. p.0) (locations_left l.lat-iterator) ≡ map (λ p. p.0) (locations_left l.fn.locations);
  lons : l.lons ++ map (λ p. p.1) (locations_left l.lat-iterator) ≡ map (λ p. p.1) (locations_left l.fn.locations);
}
