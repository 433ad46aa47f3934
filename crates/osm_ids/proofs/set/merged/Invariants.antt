use Rattle.std.proofs.Common.{◌≡◌, ◌∷◌, [], IfNone, length}
use Rattle.std.specs.List.{cons_option}
use Rattle.osm_ids.proofs.OrderLemmas.{with_late}
use Rattle.osm_ids.proofs.MergeLemmas.{Merging}
use Rattle.osm_ids.proofs.set.merged.Given as goal

abbrev pub invariant-ids : goal.invariant-ids
invariant-ids l = record {
  merging : Merging (with_late l.ids l.late-2.keys) l.all (cons_option l.next l.late) l.walk;
  rest : IfNone l.next (l.late ≡ []);
}

abbrev pub decreases-ids : goal.decreases-ids
decreases-ids l = length l.walk

abbrev pub invariant-late : goal.invariant-late
invariant-late l = record {
  merging : Merging (with_late l.ids l.late-2.keys) l.all (cons_option l.next l.late) (l.id ∷ l.walk);
  rest : IfNone l.next (l.late ≡ []);
}

abbrev pub decreases-late : goal.decreases-late
decreases-late l = length (cons_option l.next l.late)
