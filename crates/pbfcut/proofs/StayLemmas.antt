-- The fault of a file stays, whatever follows the file, unless it comes of the file's end.
use Rattle.std.proofs.Common.{arith, ◌≡◌, ◌⊎◌, ℕ, false, List, [], ◌∷◌, ◌++◌, Option, Some, None, refl, ap, ◌∙◌}
use Rattle.pbf_wire.specs.declared.fault.Fault.{Fault}
use Rattle.pbf_wire.specs.declared.fault.Reason.TheVariants.{EntityLarge, Unsorted}
use Rattle.pbf_frame.specs.Devices.{IsAtEnd}
use Rattle.pbf_frame.specs.Ends.{comes_of_end}
use Rattle.pbf_frame.specs.Frames.{FrameSpec}
use Rattle.pbf_frame.specs.Verdict.{Verdict, with_frame_first, judged}
use Rattle.pbf_frame.proofs.Staying.{judged_longer}
use Rattle.pbf_pass.specs.HeaderLimit.{limited, judged_writable}
use Rattle.pbf_pass.specs.Judged.{payload_fault, sound_first, sound_front, fully, judged_file}
use Rattle.pbf_pass.specs.SortedFile.{judged_sorted, ordered}
use Rattle.pbf_pass.specs.Stops.{FaultOf}
use Rattle.pbf_pass.proofs.LimitLemmas.{limited_fault}

fault_of_both : (v w : Verdict) → v ≡ w → v.1 ≡ w.1
fault_of_both v w e = ap (λ (x : Verdict). x.1) e

-- ---- of all phases

front_stays : (frames : List FrameSpec) (ending : Option Fault) (later : Verdict) (fs : List FrameSpec) (e : Fault) → sound_front frames ending ≡ (fs, Some e) → (ending ≡ Some e → later ≡ ([], Some e)) → sound_front (frames ++ later.0) later.1 ≡ (fs, Some e)
front_stays [] ending later fs e is ends = grind (arith, fault_of_both ([], ending) (fs, Some e) is, ends (fault_of_both ([], ending) (fs, Some e) is))
front_stays (f ∷ frames) ending later fs e is ends = of (payload_fault f) is (λ gs said. front_stays frames ending later gs e said ends) where
  of : (x : Option Fault) → sound_first x f (sound_front frames ending) ≡ (fs, Some e) → ((gs : List FrameSpec) → sound_front frames ending ≡ (gs, Some e) → sound_front (frames ++ later.0) later.1 ≡ (gs, Some e))
      → sound_first x f (sound_front (frames ++ later.0) later.1) ≡ (fs, Some e)
  of (Some y) is more = is
  of None is more =
      let v = sound_front frames ending in
      let said : v ≡ (v.0, Some e) = ap (λ (o : Option Fault). let w : Verdict = (v.0, o) in w) (fault_of_both (with_frame_first f v) (fs, Some e) is) in
      ap (with_frame_first f) (more v.0 said) ∙ ap (λ (l : List FrameSpec). let w : Verdict = (l, Some e) in w) (ap (λ (w : Verdict). w.0) is)

stays_fully : (file rest : List ℕ) (fs : List FrameSpec) (e : Fault) → fully (judged false 0 file) ≡ (fs, Some e) → comes_of_end e.reason ≡ false → fully (judged false 0 (file ++ rest)) ≡ (fs, Some e)
stays_fully file rest fs e is stays =
    let v = judged false 0 file in
    let s = judged_longer v.0 v.1 false 0 file rest refl in
    ap fully s.is ∙ front_stays v.0 v.1 s.later fs e is (λ same. s.fault e same stays)

pub file_stays : (file rest : List ℕ) (e : Fault) → FaultOf (judged_file (Some file)) e → comes_of_end e.reason ≡ false → FaultOf (judged_file (Some (file ++ rest))) e
file_stays file rest e (fs, is) stays = (fs, stays_fully file rest fs e is stays)

-- ---- of what can be written

limited_from : (v : Verdict) (fs : List FrameSpec) (e : Fault) → limited v ≡ (fs, Some e) → comes_of_end e.reason ≡ false → (e.reason ≡ EntityLarge → ⊥) → v ≡ (fs, Some e)
limited_from v fs e h3 h4 h5 = grind arith

pub writable_stays : (file rest : List ℕ) (e : Fault) → FaultOf (judged_writable (Some file)) e → comes_of_end e.reason ≡ false → (e.reason ≡ EntityLarge → ⊥) → FaultOf (judged_writable (Some (file ++ rest))) e
writable_stays file rest e (fs, is) stays short = (fs, limited_fault (judged_file (Some (file ++ rest))) fs e (stays_fully file rest fs e (limited_from (fully (judged false 0 file)) fs e is stays short) stays))

-- ---- of what has to be sorted

ordered_from : (v : Verdict) (fs : List FrameSpec) (e : Fault) → ordered v ≡ (fs, Some e) → (e.reason ≡ Unsorted → ⊥) → v ≡ (fs, Some e)
ordered_from v fs e h3 h4 = grind arith

ordered_fault : (v : Verdict) (fs : List FrameSpec) (e : Fault) → v ≡ (fs, Some e) → ordered v ≡ (fs, Some e)
ordered_fault v fs e is = ap ordered is

pub sorted_stays : (file rest : List ℕ) (e : Fault) → FaultOf (judged_sorted (Some file)) e → comes_of_end e.reason ≡ false → (e.reason ≡ EntityLarge → ⊥) → (e.reason ≡ Unsorted → ⊥) → FaultOf (judged_sorted (Some (file ++ rest))) e
sorted_stays file rest e (fs, is) stays short sorted =
    let longer = writable_stays file rest e (fs, ordered_from (limited (fully (judged false 0 file))) fs e is sorted) stays short in
    (longer.0, ordered_fault (limited (fully (judged false 0 (file ++ rest)))) longer.0 e longer.1)

-- ---- of a refusal

-- bytes are faulty whatever follows them, if their fault stays
pub always : (at_fault : List ℕ → Type 0) (read : List ℕ) (left : Option (List ℕ)) → ((bytes rest : List ℕ) → at_fault bytes → at_fault (bytes ++ rest)) → (((rest : List ℕ) → at_fault (read ++ rest)) ⊎ (IsAtEnd left × at_fault read)) → (rest : List ℕ) → at_fault (read ++ rest)
always at_fault read left h3 h4 rest = grind arith
