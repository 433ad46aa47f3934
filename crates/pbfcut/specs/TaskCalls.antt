-- What a call says that does a task, whichever it is, over a list of feeds: one for each pass.
use Rattle.std.specs.Prelude.{Bool, ℕ, List, [], ◌∷◌, ◌++◌, take, drop, Result, IfOk}
use Rattle.pbf_pass.specs.declared.hashing.PassCheck.{PassCheck}
use Rattle.pbf_pass.specs.declared.receipt.Halt.{Halt}
use Rattle.pbf_pass.specs.declared.receipt.InputReceipt.{InputReceipt}
use Rattle.pbf_pass.specs.Hashing.{Mark, mark_by}
use Rattle.pbfcut.specs.Calls.{DrainUse, FeedUse, GaveBy, GaveEach, GaveEachOrNot, TookBy}
use Rattle.pbfcut.specs.Ends.{EndsInFront, EndsPasses}
use Rattle.pbfcut.specs.Tasks.{Task, TaskHolds, answer_of, judge_of, spares}

-- each feed gave a file, of this digest by the check, to its end; or the first `may` later feeds were spared; then they count as having given the first file.
-- This holds of the files, one for each feed
abbrev pub GaveFiles : (may : ℕ) → (first : FeedUse) → (later : List FeedUse) → (spared : Bool) → Mark → (List (List ℕ) → Type 0) → Type 0
GaveFiles may first later spared digest holds =
    GaveBy first digest (λ b. GaveEachOrNot (take may later) spared digest b (λ some. GaveEach (drop may later) digest (λ files. holds (b ∷ some ++ files))))

-- what it says of the first feed and the later ones
pub record DoesPasses {D : Type 0} (task : Task) (first : FeedUse) (later : List FeedUse) (out : DrainUse D) (check : PassCheck) (result : Result InputReceipt Halt) : Type 0 where
  -- each feed gave a file of the digest `input` by the check, to its end, or those were spared that may be. The drain took bytes, and what the task means
  -- holds of the files, the counts and these bytes
  pub receipt : IfOk result (λ receipt. GaveFiles (spares task) first later receipt.spared (mark_by check receipt.input) (λ files. TookBy out (λ written. TaskHolds task files receipt.counts written)))
  -- however it ends: what is refused, of the bytes that were read, and that the drain took nothing then; why it stops; of what bytes it says `Changed`;
  -- and that it keeps its devices
  pub ends : EndsPasses (judge_of task) first later out check result
  -- whatever stopped it, if all feeds supply these bytes, a prefix of what is to be written for them went out, and nothing if they have a fault
  pub beginning : EndsInFront (answer_of task) (first ∷ later) out result

-- what it says of its feeds
abbrev pub DoesTask : {D : Type 0} → Task → List FeedUse → DrainUse D → PassCheck → Result InputReceipt Halt → Type 0
DoesTask task [] out check result = ⊥
DoesTask task (first ∷ later) out check result = DoesPasses task first later out check result
