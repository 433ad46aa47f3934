-- What went through the devices of a call, and what holds of it, whether they report their bytes or not.
use Rattle.std.specs.Prelude.{ℕ, List, Option, Some}
use Rattle.pbf_frame.specs.declared.device.Feed as feed
use Rattle.pbf_frame.specs.declared.device.Drain as drain
use Rattle.pbf_frame.specs.declared.reader.FrameReader.{FrameReader}
use Rattle.pbf_frame.specs.Next.{place_of, had_header_of}
use Rattle.pbf_frame.specs.Transfers.{Added, Supplied}
use Rattle.pbf_frame.specs.Verdict.{Verdict, judged_known}
use Rattle.pbf_pass.specs.Hashing.{Mark, IsDigestOf}

-- the verdict of frames on bytes that begin at a reader's place
abbrev pub judged_from : {F : Type 0} → FrameReader F → List ℕ → Option Verdict
judged_from reader bytes = judged_known (had_header_of reader) (place_of reader) (Some bytes)

-- the feed of a reader gave what it had, to its end, and this holds of the verdict on it
pub record GaveRest {F : Type 0} (f : feed.Ghosts F) (old new : FrameReader F) (holds : Option Verdict → Type 0) : Type 0 where
  pub bytes : List ℕ
  pub supplied : Supplied f old.feed bytes new.feed
  pub holding : holds (judged_from old bytes)

-- a feed gave a file, of this digest, to its end, and this holds of it
pub record GaveFile {F : Type 0} (f : feed.Ghosts F) (old new : F) (digest : Mark) (holds : List ℕ → Type 0) : Type 0 where
  pub file : List ℕ
  pub supplied : Supplied f old file new
  pub digest_is : IsDigestOf digest file
  pub holding : holds file

-- a drain took bytes, and this holds of them
pub record Took {D : Type 0} (d : drain.Ghosts D) (old new : D) (holds : List ℕ → Type 0) : Type 0 where
  pub written : List ℕ
  pub added : Added d old written new
  pub holding : holds written
