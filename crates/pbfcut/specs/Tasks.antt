-- What is done with a file in one run: how often it is read, and what holds of the files that the passes read, of the counts, and of what is written.
use Rattle.std.specs.Prelude.{◌≡◌, ℕ, ◌+◌, ◌&&◌, not, if◌then◌else◌, List, [], ◌∷◌, Bool, false, Option, Some}
use Rattle.osm_area.specs.Area.{AreaSpec}
use Rattle.osm_ways.specs.Selection.{Strategy}
use Rattle.pbf_block.specs.declared.counts.Counts.{Counts}
use Rattle.pbf_frame.specs.Verdict.{Verdict, judged, judged_known}
use Rattle.pbf_pass.specs.HeaderLimit.{judged_writable}
use Rattle.pbf_pass.specs.Judged.{fully, judged_file}
use Rattle.pbf_pass.specs.Pass.{CountsFile}
use Rattle.pbfcut.specs.declared.task.PlainTask.{PlainTask}
use Rattle.pbfcut.specs.declared.task.PlainTask.TheVariants as plain
use Rattle.pbfcut.specs.Blobs.{lines}
use Rattle.pbfcut.specs.Kept.{IsWritable, conversion_of, extract_of}
use Rattle.pbfcut.specs.Receipts.{judge_by}
use Rattle.pbfcut.specs.Showing.{Shown, answer_text}
use Rattle.pbfcut.specs.Theorem.{IsConverted, IsExtraction}

pub data Task : Type 0 where
  checking : Task
  -- the lines of all frames before the first fault of one, which go out as they are read. `list_blobs` does it, and no `FileTask`
  listing_frames : Task
  showing : (dates : Bool) → Task
  converting : Task
  -- the same bytes in other blobs
  copying : Task
  extracting : Strategy → AreaSpec → Task

-- those that need no area
abbrev pub plain_task : PlainTask → Task
plain_task plain.Check = checking
plain_task (plain.Show dates) = showing dates
plain_task plain.Convert = converting
plain_task plain.Copy = copying

-- how many passes may be left out: two with all parents, otherwise one. With members a file that isn't sorted is refused
abbrev pub spares_by : Strategy → ℕ
spares_by by = if by.parents && not by.members then 2 else 1

-- how often the file is read
abbrev pub passes_of : Task → ℕ
passes_of checking = 1
passes_of listing_frames = 1
passes_of (showing dates) = 2
passes_of converting = 2
passes_of copying = 2
passes_of (extracting by area) = spares_by by + 2

-- how many passes after the first may read nothing, if the first was enough
abbrev pub spares : Task → ℕ
spares (extracting by area) = spares_by by
spares _ = 0

-- the verdict by which the first file is refused
abbrev pub judge_of : Task → Option (List ℕ) → Option Verdict
judge_of checking = judged_file
judge_of listing_frames = judged_known false 0
judge_of (showing dates) = judged_file
judge_of converting = judged_writable
judge_of copying = judged_file
judge_of (extracting by area) = judge_by by

-- what holds of the files that were read, one for each pass, and of the one that was written. Their digests by the check of the run are the same; where a file that was read later has to
-- be the first one, that is a premise
abbrev pub TaskHolds : Task → List (List ℕ) → Counts → (written : List ℕ) → Type 0
TaskHolds checking (b ∷ []) counts written = CountsFile (judged_file (Some b)) counts × (written ≡ [])
TaskHolds (showing dates) (b ∷ c ∷ []) counts written = CountsFile (judged_file (Some b)) counts × Shown dates (judged_file (Some c)) written
TaskHolds converting (b ∷ c ∷ []) counts written = IsWritable b × (b ≡ c → IsConverted b counts written)
TaskHolds copying (b ∷ c ∷ []) counts written = CountsFile (judged_file (Some b)) counts × (written ≡ c)
TaskHolds (extracting by area) (b ∷ c ∷ d ∷ []) counts written = IsWritable b
    × (b ≡ c → b ≡ d → IsExtraction by area b counts written)
TaskHolds (extracting by area) (b ∷ c ∷ d ∷ e ∷ []) counts written = IsWritable b
    × (b ≡ c → b ≡ d → b ≡ e → IsExtraction by area b counts written)
TaskHolds _ files counts written = ⊥

-- what is to be written for a file: nothing if it has a fault, but for lines of frames
abbrev pub answer_of : Task → List ℕ → List ℕ
answer_of checking file = []
answer_of listing_frames file = lines (judged false 0 file).0
answer_of (showing dates) file = answer_text dates (fully (judged false 0 file))
answer_of converting file = conversion_of file
answer_of copying file = file
answer_of (extracting by area) file = extract_of by area file
