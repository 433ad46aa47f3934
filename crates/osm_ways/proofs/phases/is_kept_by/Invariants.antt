use Rattle.std.proofs.Common.{◌≡◌, length}
use Rattle.std.specs.List.{list_any}
use Rattle.std.specs.FinSet as set
use Rattle.osm_entity.specs.Sources.{refs_left}
use Rattle.osm_ids.specs.Windows.{IsOf}
use Rattle.osm_ways.proofs.phases.is_kept_by.Given as goal

-- it depends on the refs that are left
abbrev pub invariant-refs : goal.invariant-refs
invariant-refs g l = record {
  of : IsOf (g.I.IdLookup.ids l.ids) l.window;
  left : list_any (set.contains (g.I.IdLookup.ids l.ids)) (refs_left l.rest) ≡ list_any (set.contains (g.I.IdLookup.ids l.ids)) (refs_left l.refs);
}

abbrev pub decreases-refs : goal.decreases-refs
decreases-refs g l = length (refs_left l.rest)
