-- What a blob without a fault holds.
use Rattle.std.proofs.Common.{◌≡◌, ℕ, ◌<◌, List, [], Option, None, length, sym, ap₂, ◌∙◌, arith}
use Rattle.std.specs.Option.{option_or}
use Rattle.std.proofs.lemmas.Bool.Decides.{nat_tests}
use Rattle.pbf_wire.specs.declared.fault.Fault.{Fault}
use Rattle.pbf_wire.specs.Least.{least}
use Rattle.pbf_wire.specs.Occurrence.{Occurrence, items, found}
use Rattle.pbf_wire.specs.Reading.{occurrence_text, last_of}
use Rattle.pbf_wire.specs.Wire.{wire}
use Rattle.pbf_wire.proofs.FaultLemmas.{leaf_is_wire}
use Rattle.pbf_frame.specs.declared.blob.TheConstants.{RAW, BLOB_KINDS}
use Rattle.pbf_wire.specs.declared.limits.TheConstants.{RAW_LIMIT}
use Rattle.pbf_frame.specs.Blob.{compressed, raw_faults, blob_faults, blob_fault, raw_payload_of}
use Rattle.pbf_wire.proofs.SoundLemmas.{no_least, both_none, option_last}

raw_short : (at : ℕ) (last : Option Occurrence) (others : List Fault) → raw_faults at last others ≡ [] → length (occurrence_text last) < RAW_LIMIT
raw_short at last others e = grind (arith, nat_tests)

-- the first fault of a blob, in which the first wire fault represents the phase of its wire form
pub blob_steps : (at : ℕ) (blob : List ℕ) → blob_fault at blob ≡ option_or (wire BLOB_KINDS (items at blob)) (least (blob_faults at blob))
unfolding blob_fault
blob_steps at blob = ap₂ option_or (leaf_is_wire BLOB_KINDS (items at blob)) (option_last (least (blob_faults at blob)))

pub payload_short : (at : ℕ) (blob : List ℕ) → blob_fault at blob ≡ None → length (raw_payload_of at blob) < RAW_LIMIT
payload_short at blob e = raw_short at (last_of RAW (found (items at blob))) (compressed (found (items at blob))) (no_least (blob_faults at blob) (both_none (wire BLOB_KINDS (items at blob)) _ (sym (blob_steps at blob) ∙ e)).1)
