-- What became of a stream and of a frame.
use Rattle.std.specs.Prelude.{◌≡◌, List, ℕ, Option, Some, None, Result, Ok, Err}
use Rattle.pbf_unpack.specs.declared.fault.UnpackFault.{UnpackFault}
use Rattle.pbf_unpack.specs.declared.unpack.Outcome.{Outcome}
use Rattle.pbf_unpack.specs.declared.unpack.Outcome.TheVariants.{Kept, Unpacked, Faulty}

-- without a fault the buffer has the meaning
abbrev pub IsMeaning : {E : Type 0} → Result (List ℕ) E → Option E → List ℕ → Type 0
IsMeaning meaning None held = meaning ≡ Ok held
IsMeaning meaning (Some e) held = meaning ≡ Err e

-- the fault of a frame's zlib data
abbrev pub fault_of_outcome : Outcome → Option UnpackFault
fault_of_outcome Kept = None
fault_of_outcome Unpacked = None
fault_of_outcome (Faulty e) = Some e
