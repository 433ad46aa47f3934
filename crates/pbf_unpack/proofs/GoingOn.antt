-- A raw file goes on with frames after those that were cut off it.
use Rattle.std.proofs.Common.{◌≡◌, inl, inr, ℕ, ◌+◌, ◌<◌, ◌||◌, Bool, false, List, [], ◌∷◌, ◌++◌, length, None, sym, ap, subst, ◌∙◌, append_assoc, arith}
use Rattle.std.proofs.Math.Logic.{∥∥₁_map}
use Rattle.std.proofs.lemmas.Bool.{cases_lt}
use Rattle.std.proofs.lemmas.Grind.{not_there}
use Rattle.std.proofs.lemmas.List.{append-nil, append_cancel_left}
use Rattle.pbf_wire.proofs.SoundLemmas.{both_nil}
use Rattle.pbf_frame.specs.declared.frame.TheConstants.{FILE_LIMIT}
use Rattle.pbf_frame.specs.Frames.{FrameSpec, is_header, frame_bytes, frame_end, frame_kind, next_of}
use Rattle.pbf_frame.specs.Sound.{AreFrames, EndsAs, IsFrame, had_after, place_after}
use Rattle.pbf_frame.specs.Verdict.{joined_frames, judged}
use Rattle.pbf_frame.proofs.Longest.{longest_front}
use Rattle.pbf_frame.proofs.Parting.{next_none}
use Rattle.pbf_unpack.specs.RawFrames.{AreRawFrames, GoesOn, IsCutRaw, IsFirst, IsNoRaw, IsOneFrame, IsRawFile}

-- a file is frames
pub file_frames : (file : List ℕ) → (judged false 0 file).1 ≡ None → AreRawFrames file
file_frames file none =
    let front = longest_front false 0 file in
    let frames = (judged false 0 file).0 in
    let next = next_of (had_after false frames) (place_after 0 frames) front.rest in
    let empty : front.rest ≡ [] = (next_none (had_after false frames) (place_after 0 frames) front.rest [] (subst (EndsAs next) none front.ends)).0 in
    record { had = false; place = 0; frames = frames; are = front.frames; joined = front.split ∙ ap (λ (l : List ℕ). joined_frames frames ++ l) empty ∙ append-nil (joined_frames frames) }

pub goes_on_first : GoesOn []
goes_on_first rest none = ∣ file_frames rest none ∣₁

first_of : (had : Bool) (place : ℕ) (f : FrameSpec) (fs : List FrameSpec) (bytes : List ℕ) → IsFrame had place f → bytes ≡ frame_bytes f ++ joined_frames fs → IsFirst f bytes
first_of had place f fs bytes is e = record { had = had; sound = subst (λ (n : ℕ). IsFrame had n f) (sym is.offset) is; later = joined_frames fs; split = e }

after_one : (raw rest : List ℕ) → IsOneFrame raw → (had : Bool) (place : ℕ) (fs : List FrameSpec) → AreFrames had place fs → raw ++ rest ≡ joined_frames fs → AreRawFrames rest
after_one raw rest one had place [] are e = record { had = had; place = place; frames = []; are = tt; joined = (both_nil raw rest e).1 }
after_one raw rest one had place (f ∷ fs) are e =
    let is : raw ≡ frame_bytes f = one f rest (first_of had place f fs (raw ++ rest) are.0 e) in
    record {
      had = had || is_header (frame_kind f);
      place = frame_end f;
      frames = fs;
      are = are.1;
      joined = append_cancel_left (frame_bytes f) rest (joined_frames fs) (ap (λ (l : List ℕ). l ++ rest) (sym is) ∙ e);
    }

-- one more was cut off
pub goes_on_more : (done raw : List ℕ) → IsOneFrame raw → GoesOn done → GoesOn (done ++ raw)
goes_on_more done raw one has rest none =
    ∥∥₁_map (has (raw ++ rest) (ap (λ (l : List ℕ). (judged false 0 l).1) (sym (append_assoc done raw rest)) ∙ none)) (λ x. after_one raw rest one x.had x.place x.frames x.are x.joined)

-- ---- what a drain took that takes nothing more

-- what is held comes first in what follows the rest
held_first : (held rest : List ℕ) → 0 < length held → AreRawFrames (held ++ rest) → (f : FrameSpec) × IsFirst f (held ++ rest)
held_first held rest some are = by_frames are.had are.place are.frames are.are are.joined where
  by_frames : (had : Bool) (place : ℕ) (fs : List FrameSpec) → AreFrames had place fs → held ++ rest ≡ joined_frames fs → (f : FrameSpec) × IsFirst f (held ++ rest)
  by_frames had place [] sound e = absurd (omega (arith, some, ap length (both_nil held rest e).0))
  by_frames had place (f ∷ fs) sound e = (f, first_of had place f fs (held ++ rest) sound.0 e)

-- no raw file begins with bytes of which those that are held are none of a frame
pub no_raw_file : (done held rest : List ℕ) (place : ℕ) → GoesOn done → IsNoRaw place held → IsRawFile ((done ++ held) ++ rest) → FILE_LIMIT < place + length held
no_raw_file done held rest place has isnt is = elim (cases_lt FILE_LIMIT (place + length held)) [
  | inl past ↦ past
  | inr low ↦ absurd (not_there (has (held ++ rest) (ap (λ (l : List ℕ). (judged false 0 l).1) (sym (append_assoc done held rest)) ∙ is)) (λ are. (let first = held_first held rest isnt.some are in omega (arith, low, isnt.none first.0 rest first.1))))
]

-- nor is one those bytes
pub no_cut_file : (done held : List ℕ) → GoesOn done → IsCutRaw held → IsRawFile (done ++ held) → ⊥
no_cut_file done held has isnt is =
    not_there (has held is) (λ are. (let first = held_first held [] isnt.some (subst AreRawFrames (sym (append-nil held)) are) in isnt.none first.0 (subst (IsFirst first.0) (append-nil held) first.1)))
