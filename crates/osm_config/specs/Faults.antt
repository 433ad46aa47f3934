-- What is read, or the first fault.
use Rattle.std.specs.Prelude.{ℕ, List, Option, Some, None, Result, Ok, Err}
use Rattle.osm_config.specs.declared.fault.ConfigReason.{ConfigReason}

-- a fault: the number of its extract, or 0, the name of its member, or nothing, and what is wrong
pub record FaultSpec : Type 0 where
  pub extract : ℕ
  pub member : List ℕ
  pub reason : ConfigReason

abbrev pub OrFault : Type 0 → Type 0
OrFault A = Result A FaultSpec

abbrev pub config_fault : {A : Type 0} → (extract : ℕ) → (name : List ℕ) → ConfigReason → OrFault A
config_fault extract name reason = Err (record { extract = extract; member = name; reason = reason })

-- what is there, or this fault
abbrev pub or_fault : {A : Type 0} → (extract : ℕ) → (name : List ℕ) → ConfigReason → Option A → OrFault A
or_fault extract name reason None = config_fault extract name reason
or_fault extract name reason (Some x) = Ok x
