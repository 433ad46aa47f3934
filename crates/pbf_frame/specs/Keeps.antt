-- What a call leaves of a device, whatever it returns.
use Rattle.std.specs.Prelude.{◌≡◌, ◌≤◌}
use Rattle.pbf_frame.specs.declared.device.Feed as feed
use Rattle.pbf_frame.specs.declared.device.Drain as drain

-- its count of failures doesn't fall, and it keeps its references
pub record KeepsFeed {F : Type 0} (f : feed.Ghosts F) (old new : F) : Type 0 where
  pub counts : f.failures old ≤ f.failures new
  pub lender : f.lender new ≡ f.lender old

pub record KeepsDrain {D : Type 0} (d : drain.Ghosts D) (old new : D) : Type 0 where
  pub counts : d.failures old ≤ d.failures new
  pub lender : d.lender new ≡ d.lender old
