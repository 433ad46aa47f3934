-- What the passes of a command read, and what that was.
use Rattle.std.specs.Prelude.{◌≡◌, ◌⊎◌, ℕ, ◌-◌, ◌<◌, List, [], ◌∷◌, ◌++◌, map, Option, Some, IfSome}
use Rattle.pbf_block.specs.declared.counts.Counts.{Counts}
use Rattle.pbf_frame.specs.Devices.{IsAtEnd}
use Rattle.pbf_frame.specs.Verdict.{Verdict}
use Rattle.pbf_pass.specs.Stops.{FaultOf}
use Rattle.pbf_pass.specs.declared.hashing.PassCheck.{PassCheck}
use Rattle.pbf_wire.specs.declared.fault.Fault.{Fault}
use Rattle.pbfcut_program.specs.Events.{Reading}
use Rattle.pbfcut_program.specs.Manner.{AreDigests, Manner, of_input, of_output}
use Rattle.pbfcut.specs.Tasks.{Task, TaskHolds, spares}

-- a pass read this file: all of IN, of which this is known. It is what IN had when it was opened, if the host reports that
pub record IsWhole (known : List ℕ → Type 0) (has : Option (List ℕ)) (r : Reading) (file : List ℕ) : Type 0 where
  pub are : r.bytes ≡ file
  pub end : IsAtEnd r.left
  pub is_known : known file
  pub opened : IfSome has (λ all. all ≡ file)

-- a later one did; or it was spared, as so many of those that follow may be, and counts as one that read the first file
abbrev pub IsWholeOrSpared : (List ℕ → Type 0) → ℕ → (first : List ℕ) → (has : Option (List ℕ)) → Reading → List ℕ → Type 0
IsWholeOrSpared known may first has r file = IsWhole known has r file ⊎ ((0 < may) × (r.bytes ≡ []) × (file ≡ first))

abbrev pub ReadLater : (List ℕ → Type 0) → ℕ → (first : List ℕ) → (has : List (Option (List ℕ))) → List Reading → List (List ℕ) → Type 0
ReadLater known may first [] [] [] = Unit {0}
ReadLater known may first (has ∷ later) (r ∷ rs) (b ∷ bs) = IsWholeOrSpared known may first has r b × ReadLater known (may - 1) first later rs bs
ReadLater known may first _ _ _ = ⊥

-- each pass read its file; only so many after the first may be spared
abbrev pub ReadAll : (List ℕ → Type 0) → ℕ → (has : List (Option (List ℕ))) → List Reading → List (List ℕ) → Type 0
ReadAll known may (has ∷ later) (r ∷ rs) (b ∷ bs) = IsWhole known has r b × ReadLater known may b later rs bs
ReadAll known may _ _ _ = ⊥

-- the passes read files, of one digest by this check, and what the task means holds of the raw files that they and OUT mean
pub record IsWork (m : Manner) (by : PassCheck) (task : Task) (has : List (Option (List ℕ))) (readings : List Reading) (written : List ℕ) (counts : Counts) (digest : List ℕ) (raw : Option (List ℕ)) : Type 0 where
  pub files : List (List ℕ)
  pub read : ReadAll (AreDigests m by digest raw) (spares task) has readings files
  pub holds : TaskHolds task (map (of_input m) files) counts (of_output m written)

-- this has that fault first, whatever follows it; or by itself, and it is all of IN
abbrev pub ShowsFault : (Option (List ℕ) → Option Verdict) → Fault → (bytes : List ℕ) → (left : Option (List ℕ)) → Type 0
ShowsFault judge fault bytes left = ((rest : List ℕ) → FaultOf (judge (Some (bytes ++ rest))) fault) ⊎ (IsAtEnd left × FaultOf (judge (Some bytes)) fault)

-- this isn't the file: the file doesn't begin so; or this is all of IN, and another list
abbrev pub IsOther : (file bytes : List ℕ) → (left : Option (List ℕ)) → Type 0
IsOther file bytes left = ((rest : List ℕ) → file ≡ bytes ++ rest → ⊥) ⊎ (IsAtEnd left × (file ≡ bytes → ⊥))
