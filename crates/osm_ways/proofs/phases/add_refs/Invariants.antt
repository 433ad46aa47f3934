use Rattle.std.proofs.Common.{◌≡◌}
use Rattle.std.specs.List.{fold}
use Rattle.std.specs.FinSet as set
use Rattle.osm_entity.specs.Sources.{refs_left}
use Rattle.osm_ids.specs.Windows.{IsOf}
use Rattle.osm_ways.proofs.phases.add_refs.Given as goal

-- the ids so far and the refs that are left are all
abbrev pub invariant-loop-id : goal.invariant-loop-id
invariant-loop-id g l = record {
  can : (goal.iterator-loop-id g).can_next l.id-iterator;
  ends : (goal.iterator-loop-id g).is_finite l.id-iterator;
  of : IsOf (g.I.IdLookup.ids l.known) l.window;
  so_far : fold set.insert (set.union (g.I.IdLookup.ids l.known) l.ids) (refs_left l.id-iterator) ≡ fold set.insert (set.union (g.I.IdLookup.ids l.known) l.fn.ids) (refs_left l.refs);
}
