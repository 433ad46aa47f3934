-- Why writing stops, and what it does to the drain.
use Rattle.std.specs.Prelude.{ℕ, Result, IfErr}
use Rattle.pbf_frame.specs.declared.device.Drain as drain
use Rattle.pbf_frame.specs.declared.stop.Stop.{Stop}
use Rattle.pbf_frame.specs.declared.stop.Stop.TheVariants.{Write, Memory}
use Rattle.pbf_frame.specs.Devices.{HasRisen}
use Rattle.pbf_frame.specs.Keeps.{KeepsDrain}

-- a stop names the drain only if its count of failures rose, and never a feed
abbrev pub IsPackStop : ℕ → ℕ → Stop → Type 0
IsPackStop old new Write = HasRisen old new
IsPackStop old new Memory = Unit {0}
IsPackStop _ _ _ = ⊥

-- a call that writes stops for such a cause
pub record UsesDrain {D X : Type 0} (d : drain.Ghosts D) (old new : D) (result : Result X Stop) : Type 0 where
  pub stops : IfErr result (IsPackStop (d.failures old) (d.failures new))
  pub keeps : KeepsDrain d old new
