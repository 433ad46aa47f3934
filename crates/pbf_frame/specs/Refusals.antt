-- Why bytes are refused: what was read of them, and what may follow.
use Rattle.std.specs.Prelude.{◌≡◌, ◌⊎◌, ℕ, List, ◌++◌, Option, Result, Err}
use Rattle.pbf_wire.specs.declared.fault.Fault.{Fault}
use Rattle.pbf_frame.specs.declared.device.Feed as feed
use Rattle.pbf_frame.specs.declared.stop.Stop.{Stop}
use Rattle.pbf_frame.specs.declared.stop.Stop.TheVariants.{Refused, Read, Write, Memory, Changed}
use Rattle.pbf_frame.specs.Devices.{prepend, Passes, IsAtEnd}

-- a feed gave bytes that are faulty: whatever follows them, or by themselves if the feed was at its end
pub record Refuses (at_fault : List ℕ → Type 0) (before now : ℕ → List ℕ → Type 0) (old new : Option (List ℕ)) : Type 0 where
  pub read : List ℕ
  pub told : old ≡ prepend read new
  pub logged : Passes before read now
  pub faulty : ((rest : List ℕ) → at_fault (read ++ rest)) ⊎ (IsAtEnd new × at_fault read)

-- a call that judges bytes so refuses them; what else may stop it says nothing of them
abbrev pub RefusedBy : {A : Type 0} → (List ℕ → Result A Fault) → (before now : ℕ → List ℕ → Type 0) → (old new : Option (List ℕ)) → Stop → Type 0
RefusedBy judge before now old new (Refused e) = Refuses (λ bytes. judge bytes ≡ Err e) before now old new
RefusedBy judge before now old new Read = Unit {0}
RefusedBy judge before now old new Write = Unit {0}
RefusedBy judge before now old new Memory = Unit {0}
RefusedBy judge before now old new (Changed pass) = Unit {0}

-- the same of the bytes that a feed gave meanwhile
abbrev pub RefusedFrom : {F A : Type 0} → feed.Ghosts F → (List ℕ → Result A Fault) → (old new : F) → Stop → Type 0
RefusedFrom f judge old new stop = RefusedBy judge (f.has_passed old) (f.has_passed new) (f.remaining old) (f.remaining new) stop
