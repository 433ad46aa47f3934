-- A file that has to be sorted by type, and isn't.
use Rattle.std.proofs.Common.{arith, ◌≡◌, ℕ, false, List, [], map, Option, Some, None, subst, sym, ap, ◌∙◌}
use Rattle.std.specs.Option.{option_map}
use Rattle.osm_ways.specs.Sorted.{is_rising}
use Rattle.pbf_wire.specs.declared.fault.Fault.{Fault}
use Rattle.pbf_wire.specs.declared.fault.Reason.TheVariants.{Unsorted}
use Rattle.pbf_wire.specs.Faults.{fault}
use Rattle.pbf_header.specs.Header.{HeaderSpec}
use Rattle.pbf_frame.specs.declared.device.Feed as feed
use Rattle.pbf_frame.specs.Frames.{FrameSpec}
use Rattle.pbf_frame.specs.Verdict.{Verdict, Says}
use Rattle.pbf_pass.specs.Counting.{stored_entities}
use Rattle.pbf_pass.specs.declared.hashing.PassCheck.{PassCheck}
use Rattle.pbf_pass.specs.declared.receipt.Halt.{Halt}
use Rattle.pbf_pass.specs.HeaderLimit.{header_limit, judged_writable}
use Rattle.pbf_pass.specs.Judged.{judged_file}
use Rattle.pbf_pass.specs.Pass.{file_header}
use Rattle.pbf_pass.specs.Refused.{Halts, RefusesFile}
use Rattle.pbf_pass.specs.SortedFile.{judged_sorted, order_fault, ordered, rank_of}
use Rattle.pbf_pass.specs.Stops.{FaultOf}
use Rattle.pbf_pass.proofs.HaltingLemmas.{halts_also}
use Rattle.pbf_pass.proofs.LimitLemmas.{judged_sound}

ordered_fault : (known : Option Verdict) (frames : List FrameSpec) (e : Fault) → Says known (frames, Some e) → Says (option_map ordered known) (frames, Some e)
ordered_fault known frames e h = grind arith

-- a fault of a file that is written is one of a file that has to be sorted
pub fault_sorted : (known : Option (List ℕ)) (e : Fault) → FaultOf (judged_writable known) e → FaultOf (judged_sorted known) e
fault_sorted known e h = (h.0, ordered_fault (judged_writable known) h.0 e h.1)

pub halts_sorting : {F : Type 0} (f : feed.Ghosts F) (old new : F) (check : PassCheck) (h : Halt) → Halts (RefusesFile f old new check (λ b. judged_writable (Some b))) h → Halts (RefusesFile f old new check (λ b. judged_sorted (Some b))) h
halts_sorting f old new check h halts = halts_also f old new check (λ b. judged_writable (Some b)) (λ b. judged_sorted (Some b)) h (λ e b. fault_sorted (Some b) e) halts

-- a file without a fault that isn't sorted
pub order_refused : (b : List ℕ) (frames : List FrameSpec) (header : ℕ × HeaderSpec) → judged_file (Some b) ≡ Some (frames, None) → header_limit (file_header frames) ≡ None → file_header frames ≡ Some header → is_rising (map rank_of (stored_entities frames)) ≡ false
    → FaultOf (judged_sorted (Some b)) (fault header.0 Unsorted)
order_refused b frames header judged within has lost =
    let writable = judged_sound b frames judged within in
    let told : order_fault frames ≡ Some (fault header.0 Unsorted) = grind (arith, lost, has) in
    ([], subst (λ (o : Option Verdict). Says o ([], Some (fault header.0 Unsorted))) (sym (ap (λ (o : Option Verdict). option_map ordered o) writable)) (grind (arith, told)))
