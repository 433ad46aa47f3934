-- What went out when a call of the engine stopped, if its feeds had the same bytes.
use Rattle.std.proofs.Common.{arith, ◌≡◌, inl, inr, ℕ, ◌+◌, List, [], ◌∷◌, map, length, subst, Option, Some, Result, Ok, Err, IfErr, OnErr, refl, ap}
use Rattle.pbf_frame.specs.declared.device.Feed as feed
use Rattle.pbf_frame.specs.declared.device.Drain as drain
use Rattle.pbf_frame.specs.declared.stop.Stop.{Stop}
use Rattle.pbf_frame.specs.declared.stop.Stop.TheVariants as stop
use Rattle.pbf_pass.specs.declared.hashing.PassCheck.{PassCheck}
use Rattle.pbf_pass.specs.declared.receipt.Halt.{Halt}
use Rattle.pbf_pass.specs.declared.receipt.InputReceipt.{InputReceipt}
use Rattle.pbf_pass.specs.Stops.{Caused}
use Rattle.pbf_unpack.specs.Unpacked.{unpacked}
use Rattle.pbf_wire.specs.declared.fault.Fault.{Fault}
use Rattle.pbf_published.specs.declared.input.PublishedHalt.{PublishedHalt}
use Rattle.pbf_published.specs.declared.input.PublishedInput.{PublishedInput}
use Rattle.pbf_published.specs.Published.{ChangedFrom, PassChanged, UnlessChanged, raw_of}
use Rattle.pbf_published.specs.PublishedTasks.{DoesPublished}
use Rattle.pbfcut.specs.Calls.{AllSupply, drained, supply_of, used}
use Rattle.pbfcut_program.specs.declared.engine.Report.{Report}
use Rattle.pbfcut_program.specs.declared.engine.Halted.{Halted}
use Rattle.pbfcut_program.specs.Devices.{Fronts}
use Rattle.pbfcut_program.specs.Manner.{Form, meant, meant_known, packed_file, raw_file}
use Rattle.pbfcut_program.specs.Outcomes.{ReportsPublished, ReportsRaw}
use Rattle.pbfcut_program.proofs.PublishedCalls.{supplies_are}
use Rattle.pbfcut.specs.TaskCalls.{DoesTask}
use Rattle.pbfcut.specs.Tasks.{Task}

-- what is known of a stopped call over raw files holds of what is reported of it
raw_stopped : {X Y : Type 0} (outcome : Result InputReceipt Halt) (result : Result Report Halted) → (X → Y) → OnErr outcome X → ReportsRaw outcome result → OnErr result Y
raw_stopped outcome result h2 h3 h4 = grind arith

-- feeds with the same bytes don't differ
not_from : (number : ℕ) (first : Option (List ℕ)) (bytes : List ℕ) (has : List (Option (List ℕ))) (pass : ℕ) → first ≡ Some bytes → AllSupply bytes has → ChangedFrom number first has pass → ⊥
not_from number first bytes [] pass e all c = c
not_from number first bytes (h ∷ has) pass e all (inl c) = c.1 bytes bytes e all.0 refl
not_from number first bytes (h ∷ has) pass e all (inr c) = not_from (number + 1) first bytes has pass e all.1 c

not_changed : (bytes : List ℕ) (has : List (Option (List ℕ))) (pass : ℕ) → AllSupply bytes has → PassChanged has pass → ⊥
not_changed bytes has pass h3 h4 = grind (arith, not_from)

module _ (refused : Fault → Type 0) (read wrote : Type 0) (has : List (Option (List ℕ))) (X : Type 0) where
  unless_out : (bytes : List ℕ) (s : Stop) → AllSupply bytes has → UnlessChanged X s → Caused refused read wrote (PassChanged has) s → X
  unless_out bytes s h2 h3 h4 = grind (arith, not_changed)

  -- the same of published files, where nothing is said of what went out before a change was seen
  published_stopped : (Y : List ℕ → Type 0) (outcome : Result PublishedInput PublishedHalt) (result : Result Report Halted) → ((bytes : List ℕ) → AllSupply bytes has → X → Y bytes)
      → IfErr outcome (λ h. UnlessChanged X h.stop) → IfErr outcome (λ h. Caused refused read wrote (PassChanged has) h.stop) → ReportsPublished outcome result → OnErr result ((bytes : List ℕ) → AllSupply bytes has → Y bytes)
  published_stopped Y (Ok receipt) (Ok report) to x c r = tt
  published_stopped Y (Err halt) (Err halted) to x c r = λ bytes all. to bytes all (unless_out bytes halt.stop all x c)
  published_stopped Y (Ok receipt) (Err halted) to x c r = absurd r
  published_stopped Y (Err halt) (Ok report) to x c r = absurd r

pub meant_is : (form : Form) (known : Option (List ℕ)) (bytes : List ℕ) → known ≡ Some bytes → meant_known form known ≡ Some (meant form bytes)
meant_is form known bytes h3 = grind arith

raw_is : (known : Option (List ℕ)) (bytes : List ℕ) → known ≡ Some bytes → raw_of known ≡ Some (unpacked bytes)
raw_is known bytes e = ap raw_of e

pub raws_are : (bytes : List ℕ) (has : List (Option (List ℕ))) → AllSupply bytes has → AllSupply (unpacked bytes) (map raw_of has)
raws_are bytes [] all = tt
raws_are bytes (one ∷ more) all = (raw_is one bytes all.0, raws_are bytes more all.1)

module _ {F D : Type 0} (f : feed.Ghosts F) (d : drain.Ghosts D) (out out_now : D) (by : PassCheck) (task : Task) (result : Result Report Halted) where
  -- of raw files
  pub raw_front : (olds news : List F) (outcome : Result InputReceipt Halt) → length news ≡ length olds → DoesTask task (used f olds news) (drained d out out_now) by outcome → ReportsRaw outcome result → Fronts raw_file task (map f.remaining olds) (d.taken out) (d.taken out_now) result
  raw_front [] news outcome many does r = absurd does
  raw_front (old ∷ olds) [] outcome many does r = absurd does
  raw_front (old ∷ olds) (now ∷ news) outcome many does r =
      subst (λ has. Fronts raw_file task has (d.taken out) (d.taken out_now) result) (supplies_are f (old ∷ olds) (now ∷ news) many) (raw_stopped outcome result (λ front. front) does.beginning r)

  -- of published ones
  pub published_front : (olds news : List F) (outcome : Result PublishedInput PublishedHalt) → length news ≡ length olds → DoesPublished task (used f olds news) (drained d out out_now) by outcome → ReportsPublished outcome result → Fronts packed_file task (map f.remaining olds) (d.taken out) (d.taken out_now) result
  published_front [] news outcome many does r = absurd does
  published_front (old ∷ olds) [] outcome many does r = absurd does
  published_front (old ∷ olds) (now ∷ news) outcome many does r =
      let has = map supply_of (used f (old ∷ olds) (now ∷ news)) in
      subst (λ has. Fronts packed_file task has (d.taken out) (d.taken out_now) result) (supplies_are f (old ∷ olds) (now ∷ news) many)
      (published_stopped _ _ _ has _ _ outcome result (λ bytes all front. front (unpacked bytes) (raws_are bytes has all)) does.beginning does.stops r)
