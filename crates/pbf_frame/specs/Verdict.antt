-- The verdict on a file: its frames before the first faulty one, and the fault, if any.
use Rattle.std.specs.Prelude.{◌≡◌, ℕ, zero, suc, ◌+◌, List, [], ◌∷◌, ◌++◌, length, Bool, ◌||◌, Option, Some, None, Result, Ok, Err, IfSome}
use Rattle.std.specs.Option.{option_map}
use Rattle.pbf_wire.specs.declared.fault.Fault.{Fault}
use Rattle.pbf_frame.specs.declared.frame.TheConstants.{FILE_LIMIT}
use Rattle.pbf_frame.specs.Frames.{FrameSpec, next_within, is_header, frame_kind, frame_end, frame_bytes}

abbrev pub Verdict : Type 0
Verdict = List FrameSpec × Option Fault

-- a frame before the others
abbrev pub with_frame_first : FrameSpec → Verdict → Verdict
with_frame_first f verdict = (f ∷ verdict.0, verdict.1)

-- the verdict, if the next frame is known and these are the verdicts on what follows
abbrev pub judged_after : (Bool → ℕ → List ℕ → Verdict) → Bool → Result (Option FrameSpec × List ℕ) Fault → Verdict
judged_after later had_header (Err e) = ([], Some e)
judged_after later had_header (Ok (None, rest)) = ([], None)
judged_after later had_header (Ok (Some f, rest)) = with_frame_first f (later (had_header || is_header (frame_kind f)) (frame_end f) rest)

-- the frames from a place on, with fuel for each of them
unfoldable pub judged_fueled : Option ℕ → ℕ → Bool → ℕ → List ℕ → Verdict
judged_fueled limit zero had_header place bytes = ([], None)
judged_fueled limit (suc fuel) had_header place bytes = judged_after (judged_fueled limit fuel) had_header (next_within limit had_header place bytes)

-- the verdict on bytes at this place, whether a header frame came before or not, with a limit of the length of all bytes or without one
unfoldable pub judged_within : Option ℕ → Bool → ℕ → List ℕ → Verdict
judged_within limit had_header place bytes = judged_fueled limit (length bytes + 1) had_header place bytes

-- the same of a file's bytes
abbrev pub judged : Bool → ℕ → List ℕ → Verdict
judged = judged_within (Some FILE_LIMIT)

-- the same of a file's bytes that may not be known
abbrev pub judged_known : Bool → ℕ → Option (List ℕ) → Option Verdict
judged_known had_header place known = option_map (judged_within (Some FILE_LIMIT) had_header place) known

abbrev pub with_first_known : FrameSpec → Option Verdict → Option Verdict
with_first_known f known = option_map (with_frame_first f) known

-- a verdict that is known is this one
abbrev pub Says : Option Verdict → Verdict → Type 0
Says known verdict = IfSome known (λ v. v ≡ verdict)

-- the frames done, and then those of the verdict
abbrev pub with_all : List FrameSpec → Verdict → Verdict
with_all done verdict = (done ++ verdict.0, verdict.1)

-- the first verdict is that the frames done come, and then those of the second
abbrev pub VerdictAfter : Option Verdict → List FrameSpec → Option Verdict → Type 0
VerdictAfter first done rest = first ≡ option_map (with_all done) rest

-- the spellings of frames, joined
abbrev pub joined_frames : List FrameSpec → List ℕ
joined_frames [] = []
joined_frames (f ∷ fs) = frame_bytes f ++ joined_frames fs
