-- What a call with a receipt says of what it wrote.
use Rattle.std.specs.Prelude.{Bool, if◌then◌else◌, ℕ, List, Option, ◌∷◌, ◌++◌, Result, IfOk}
use Rattle.osm_area.specs.Area.{AreaSpec}
use Rattle.osm_ways.specs.Selection.{Strategy}
use Rattle.pbf_pass.specs.declared.receipt.Halt.{Halt}
use Rattle.pbf_pass.specs.declared.receipt.InputReceipt.{InputReceipt}
use Rattle.pbf_pass.specs.Hashing.{Mark, mark_by}
use Rattle.pbf_frame.specs.Verdict.{Verdict}
use Rattle.pbf_pass.specs.HeaderLimit.{judged_writable}
use Rattle.pbf_pass.specs.SortedFile.{judged_sorted}
use Rattle.pbfcut.specs.Calls.{DrainUse, FeedUse, GaveBy, GaveEach, GaveEachOrNot, IfSame, TookBy}
use Rattle.pbfcut.specs.Ends.{EndsInFront, EndsPasses}
use Rattle.pbfcut.specs.Kept.{IsWritable, extract_of}
use Rattle.pbfcut.specs.Theorem.{IsExtraction}
use Rattle.pbf_pass.specs.declared.hashing.PassCheck.{PassCheck}

-- each feed gave a file of this digest by the check, or those after the first were spared that may be; the first file has no fault, and its header can be
-- written. The drain took bytes, and if the files are the same, this holds of the first and of them
abbrev pub Wrote : {D : Type 0} → (first : FeedUse) (spare later : List FeedUse) → DrainUse D → (digest : Mark) → (spared : Bool) → (List ℕ → List ℕ → Type 0) → Type 0
Wrote first spare later out digest spared holds =
    GaveBy first digest (λ b. IsWritable b × GaveEachOrNot spare spared digest b (λ some. GaveEach later digest (λ files. TookBy out (λ written. IfSame b (some ++ files) (holds b written)))))

-- ---- an extract

-- the verdict on a file that is cut by a strategy: one that adds members needs it sorted by type
abbrev pub judge_by : Strategy → Option (List ℕ) → Option Verdict
judge_by by known = if by.members then judged_sorted known else judged_writable known

-- what a call says that writes an extract of the file that its feeds give
pub record Extracts {D : Type 0} (by : Strategy) (area : AreaSpec) (first : FeedUse) (spare later : List FeedUse) (out : DrainUse D) (check : PassCheck) (result : Result InputReceipt Halt) : Type 0 where
  -- each feed gave a file of the digest `input` by the check, to its end, or those were spared that may be; the first has no fault, and its
  -- header can be written. The drain took bytes: if the files are the same, exactly its extract, and the counts are those of the entities
  -- in it
  pub receipt : IfOk result (λ receipt. Wrote first spare later out (mark_by check receipt.input) receipt.spared (λ b written. IsExtraction by area b receipt.counts written))
  -- however it ends: what is refused, of the bytes that were read, and that the drain took nothing then; why it stops; of what bytes it says `Changed`;
  -- and that it keeps its devices
  pub ends : EndsPasses (judge_by by) first (spare ++ later) out check result
  -- whatever stopped it, if all feeds supply these bytes, a prefix of their extract went out, and nothing if they have a fault
  pub beginning : EndsInFront (extract_of by area) (first ∷ spare ++ later) out result
