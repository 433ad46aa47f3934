-- A file that is not sorted by type.
use Rattle.std.proofs.Common.{arith, ◌≡◌, ℕ, Bool, false, List, [], ◌∷◌, map, Option, Some, None, refl, subst, sym, ap, ◌∙◌}
use Rattle.std.specs.List.{fold}
use Rattle.osm_area.specs.Area.{AreaSpec}
use Rattle.osm_entity.specs.Entity.{EntitySpec, TagSpec, node, way, relation}
use Rattle.osm_ways.specs.Seen.{seen_entity}
use Rattle.osm_ways.specs.Sorted.{SortedSets, is_rising, rank, sorted_step, start_sorted}
use Rattle.osm_ways.proofs.SortedLemmas.{in_order_sorted}
use Rattle.pbf_wire.specs.declared.fault.Fault.{Fault}
use Rattle.pbf_wire.specs.declared.fault.Reason.TheVariants.{Unsorted}
use Rattle.pbf_wire.specs.Faults.{fault}
use Rattle.pbf_frame.specs.Frames.{FrameSpec}
use Rattle.pbf_header.specs.Header.{HeaderSpec}
use Rattle.pbf_pass.specs.Counting.{stored_entities}
use Rattle.pbf_pass.specs.declared.hashing.PassCheck.{PassCheck}
use Rattle.pbf_pass.specs.declared.receipt.Halt.{Halt}
use Rattle.pbf_pass.specs.Hashing.{mark_by}
use Rattle.pbf_pass.specs.HeaderLimit.{judged_writable}
use Rattle.pbf_pass.specs.SortedFile.{judged_sorted, rank_of}
use Rattle.pbf_pass.specs.Stops.{FaultOf}
use Rattle.pbf_pass.proofs.GivenLemmas.{Tells, tells_file}
use Rattle.pbf_pass.specs.Refused.{stop_of}
use Rattle.pbf_pass.proofs.SortedFileLemmas.{fault_sorted, halts_sorting, order_refused}
use Rattle.pbfcut.specs.Calls.{AnyFailed, ChangedAmong, FeedUse, GaveBy, supply_of}
use Rattle.pbfcut.specs.Choosing.{RefusesOrder, StopsChoosing}
use Rattle.pbfcut.specs.Extracting.{Begins}
use Rattle.pbfcut.proofs.ConvertingLemmas.{known_says}
use Rattle.pbfcut.proofs.ExtractingLemmas.{seen_folded}
use Rattle.pbfcut.proofs.LaterLemmas.{stops_earlier}

ranks_alike : (whole : List TagSpec → Bool) (area : AreaSpec) (es : List EntitySpec) → map rank (map (seen_entity whole area) es) ≡ map rank_of es
ranks_alike whole area [] = refl
ranks_alike whole area (node n ∷ es) = ap (λ (ns : List ℕ). 0 ∷ ns) (ranks_alike whole area es)
ranks_alike whole area (way w ∷ es) = ap (λ (ns : List ℕ). 1 ∷ ns) (ranks_alike whole area es)
ranks_alike whole area (relation r ∷ es) = ap (λ (ns : List ℕ). 2 ∷ ns) (ranks_alike whole area es)

-- the first pass lost the order
is_unsorted : (whole : List TagSpec → Bool) (area : AreaSpec) (b : List ℕ) (begun phase : SortedSets) (h : HeaderSpec) (p : Begins whole area sorted_step b begun phase h) → begun ≡ start_sorted → phase.first.in_order ≡ false → is_rising (map rank_of (stored_entities p.frames)) ≡ false
is_unsorted whole area b begun phase h p fresh lost =
    let es = stored_entities p.frames in
    let took : phase ≡ fold sorted_step start_sorted (map (seen_entity whole area) es) = p.taken ∙ seen_folded whole area sorted_step begun es ∙ ap (λ (s : SortedSets). fold sorted_step s (map (seen_entity whole area) es)) fresh in
    ap is_rising (sym (ranks_alike whole area es)) ∙ sym (in_order_sorted (map (seen_entity whole area) es)) ∙ ap (λ (s : SortedSets). s.first.in_order) (sym took) ∙ lost

-- so the file has this fault
order_fault_of : (whole : List TagSpec → Bool) (area : AreaSpec) (b digest : List ℕ) (begun phase : SortedSets) (h : HeaderSpec) (halted : Halt) (p : Begins whole area sorted_step b begun phase h) (r : RefusesOrder digest halted b) → begun ≡ start_sorted → phase.first.in_order ≡ false → FaultOf (judged_sorted (Some b)) (fault r.header.0 Unsorted)
order_fault_of whole area b digest begun phase h halted p r fresh lost =
    let here : r.frames ≡ p.frames = grind (arith, r.judged, known_says b (p.frames, None) p.judged) in
    order_refused b r.frames r.header r.judged (grind (arith, here, p.within)) r.has (ap (λ (fs : List FrameSpec). is_rising (map rank_of (stored_entities fs))) here ∙ is_unsorted whole area b begun phase h p fresh lost)

told_fault : (known : Option (List ℕ)) (file : List ℕ) (e : Fault) → Tells known file → FaultOf (judged_sorted (Some file)) e → FaultOf (judged_sorted known) e
told_fault None file e tells h = ([], tt)
told_fault (Some b) file e tells h = subst (λ (l : List ℕ). FaultOf (judged_sorted (Some l)) e) (tells b refl) h

module _ (first : FeedUse) (later : List FeedUse) (check : PassCheck) (whole : List TagSpec → Bool) (area : AreaSpec) (digest : List ℕ) (begun phase : SortedSets) (header : HeaderSpec) (h : Halt)
    (one : GaveBy first (mark_by check digest) (λ b. Begins whole area sorted_step b begun phase header × RefusesOrder digest h b)) (fresh : begun ≡ start_sorted) (lost : phase.first.in_order ≡ false) where
  its_fault : FaultOf (judged_sorted (Some one.file)) (fault one.holding.1.header.0 Unsorted)
  its_fault = order_fault_of whole area one.file digest begun phase header h one.holding.0 one.holding.1 fresh lost

  pub order_stops : StopsChoosing judged_sorted first later check h
  order_stops = rw one.holding.1.is (record {
    refused = record {
      bytes = grind (arith, its_fault);
      counted = one.holding.1.counted;
      digest_is = one.digest_is;
    };
    stops = told_fault (supply_of first) one.file _ (tells_file first.ghosts _ _ _ _ one) its_fault;
    changed = tt;
  })

-- what stops the first pass stops it here too
pub stops_sorting : (first : FeedUse) (later : List FeedUse) (check : PassCheck) (h : Halt) → StopsChoosing judged_writable first later check h → StopsChoosing judged_sorted first later check h
stops_sorting first later check h stops = record {
  refused = halts_sorting first.ghosts first.old first.new check h stops.refused;
  stops = stops_earlier (FaultOf (judged_writable (supply_of first))) (FaultOf (judged_sorted (supply_of first))) (AnyFailed (first ∷ later)) (AnyFailed (first ∷ later)) ⊥ (ChangedAmong (Unit {0}) first later) (ChangedAmong (Unit {0}) first later) (stop_of h) (fault_sorted (supply_of first)) (λ r. r) (λ pass is. is) stops.stops;
  changed = stops.changed;
}
