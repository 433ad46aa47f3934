-- Bytes that went through a device, as far as it reports them and by its logs.
use Rattle.std.specs.Prelude.{◌≡◌, ℕ, List}
use Rattle.pbf_frame.specs.declared.device.Feed as feed
use Rattle.pbf_frame.specs.declared.device.Drain as drain
use Rattle.pbf_frame.specs.Devices.{prepend, append, Passes, IsAtEnd}

-- a drain took these bytes
pub record Added {D : Type 0} (d : drain.Ghosts D) (old : D) (bytes : List ℕ) (new : D) : Type 0 where
  pub told : d.taken new ≡ append (d.taken old) bytes
  pub logged : Passes (d.has_taken old) bytes (d.has_taken new)

-- a feed gave these bytes, and has others after them
pub record SuppliedFirst {F : Type 0} (f : feed.Ghosts F) (old : F) (bytes : List ℕ) (new : F) : Type 0 where
  pub told : f.remaining old ≡ prepend bytes (f.remaining new)
  pub logged : Passes (f.has_passed old) bytes (f.has_passed new)

-- a feed gave these bytes, was at its end, and goes through the same references
pub record Supplied {F : Type 0} (f : feed.Ghosts F) (old : F) (bytes : List ℕ) (new : F) : Type 0 where
  pub gave : SuppliedFirst f old bytes new
  pub end : IsAtEnd (f.remaining new)
  pub lender : f.lender new ≡ f.lender old
