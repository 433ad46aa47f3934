-- A copy that ends, and one that is too long.
use Rattle.std.proofs.Common.{◌≡◌, ℕ, ◌+◌, ◌<◌, ◌≤◌, nat_lt, Bool, false, List, [], ◌∷◌, ◌++◌, length, Option, Some, None, Ok, ap, ◌∙◌, subst, length-append, arith}
use Rattle.std.specs.Prelude.{◌||◌, unwrap_or}
use Rattle.pbf_frame.specs.declared.device.Feed as feed
use Rattle.pbf_frame.specs.declared.frame.FrameKind.{FrameKind}
use Rattle.pbf_frame.specs.declared.frame.TheConstants.{FILE_LIMIT}
use Rattle.pbf_frame.specs.declared.stop.Stop.TheVariants as stop
use Rattle.pbf_frame.specs.Frames.{FrameSpec, frame_bytes, frame_end, frame_kind, is_header, order_faults, next_of}
use Rattle.pbf_frame.specs.Sound.{AreFrames, EndsAs, had_after, place_after}
use Rattle.pbf_frame.specs.Devices.{IsFront, append, prepend}
use Rattle.pbf_frame.specs.Transfers.{SuppliedFirst}
use Rattle.pbf_frame.proofs.Beginnings.{front_longer, front_then}
use Rattle.pbf_frame.specs.Verdict.{Verdict, joined_frames, judged}
use Rattle.pbf_frame.proofs.Longest.{longest_front}
use Rattle.pbf_frame.proofs.Parting.{next_none}
use Rattle.pbf_wire.proofs.SoundLemmas.{no_least}
use Rattle.pbf_pass.specs.Judged.{judged_file}
use Rattle.pbf_pass.specs.Unjudged.{IsFaulty}
use Rattle.pbf_pass.proofs.SoundLemmas.{ends_well}
use Rattle.pbfcut.specs.declared.repeat.LaterPass.{LaterPass}
use Rattle.pbfcut.specs.Repeat.{StopsLater}

-- ---- how long a file without a fault is

-- a frame that is in order ends within the limit
ends_in_time : (h : Bool) (p : ℕ) (k : FrameKind) (last : ℕ) → order_faults (Some FILE_LIMIT) h p k last ≡ [] → last ≤ FILE_LIMIT
ends_in_time h p k last none = grind (arith, nat_lt FILE_LIMIT last)

-- frames without a fault end within it
frames_in_time : (h : Bool) (p : ℕ) (fs : List FrameSpec) → p ≤ FILE_LIMIT → AreFrames h p fs → p + length (joined_frames fs) ≤ FILE_LIMIT
frames_in_time h p [] low are = omega (arith, low)
frames_in_time h p (f ∷ fs) low are =
    let one = are.0 in
    let rest = frames_in_time (h || is_header (frame_kind f)) (frame_end f) fs (ends_in_time h p (frame_kind f) (frame_end f) (no_least _ one.ordered)) are.1 in
    let offset = one.offset in
    omega (arith, rest, offset, one.prefix_long, length-append (frame_bytes f) (joined_frames fs), length-append (f.prefix ++ f.header) f.blob, length-append f.prefix f.header)

-- no longer list of bytes is a file without a fault
pub long_is_faulty : (bytes : List ℕ) → FILE_LIMIT < length bytes → IsFaulty (judged_file (Some bytes))
long_is_faulty bytes long frames is =
    let verdict = judged false 0 bytes in
    let none : verdict.1 ≡ None = ends_well verdict.0 verdict.1 (ap (λ (o : Option Verdict). (unwrap_or o ([], None)).1) is) in
    let front = longest_front false 0 bytes in
    let ends : next_of (had_after false verdict.0) (place_after 0 verdict.0) front.rest ≡ Ok (None, []) = subst (EndsAs (next_of (had_after false verdict.0) (place_after 0 verdict.0) front.rest)) none front.ends in
    let left = next_none _ _ front.rest [] ends in
    let whole : length bytes ≡ length (joined_frames verdict.0) + length front.rest = ap length front.split ∙ length-append (joined_frames verdict.0) front.rest in
    let empty : length front.rest ≡ 0 = ap length left.0 in
    absurd (omega (arith, long, whole, empty, frames_in_time false 0 verdict.0 (omega arith) front.frames))

-- ---- what a feed below gave

pub first_as : {F : Type 0} (f : feed.Ghosts F) (first old last new : F) (bytes : List ℕ) → first ≡ old → last ≡ new → SuppliedFirst f first bytes last → SuppliedFirst f old bytes new
first_as f first old last new bytes begins ends gave = subst (λ x. SuppliedFirst f old bytes x) ends (subst (λ x. SuppliedFirst f x bytes last) begins gave)

-- ---- a later pass that gave more than that

pub too_long : {F : Type 0} (f : feed.Ghosts F) (again : LaterPass) (old new : F) (wrote : Type 0) (bytes : List ℕ) → SuppliedFirst f old bytes new → FILE_LIMIT < length bytes → StopsLater f again old new wrote (stop.Changed again.number)
too_long f again old new wrote bytes gave long = grind (arith, long_is_faulty, length-append bytes)

-- ---- what went out of what there was

known_rest : (left : Option (List ℕ)) (all bytes : List ℕ) → Some all ≡ prepend bytes left → (rest : List ℕ) × (left ≡ Some rest) × (all ≡ bytes ++ rest)
known_rest left all bytes h3 = grind arith

-- and a part of some more
pub front_then_part : (left before mid now : Option (List ℕ)) (all bytes piece : List ℕ) → Some all ≡ prepend (bytes ++ piece) left → mid ≡ append before bytes → IsFront mid now piece → IsFront before now all
front_then_part left before mid now all bytes piece gave took front = grind (arith, known_rest left all (bytes ++ piece) gave, front_longer before now (bytes ++ piece) ((known_rest left all (bytes ++ piece) gave).0) (front_then before mid now bytes piece took front), front_then before mid now bytes piece took front)
