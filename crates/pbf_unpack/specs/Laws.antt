-- What holds of unpacked files.
use Rattle.std.specs.Prelude.{◌≡◌, ℕ, List, false, None}
use Rattle.pbf_frame.specs.Verdict.{judged}
use Rattle.pbf_unpack.specs.Unpacked.{unpacked, unpack_fault}

-- a file whose frames have no fault, so that all its blobs are raw, means itself
abbrev pub RawMeansItself : Type 0
RawMeansItself = (file : List ℕ) → (judged false 0 file).1 ≡ None → (unpacked file ≡ file) × (unpack_fault file ≡ None)
