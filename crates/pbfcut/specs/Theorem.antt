-- The theorem, to be read first: what the bytes are that `convert` and `extract` write for a file. The promise says what they mean, and
-- what is refused; then comes the form in which they are written. Whatever devices the file was read from, the clause `receipt` of a
-- call says the same of the bytes that went through them, and the clause `refused` of what is refused.
use Rattle.std.specs.Prelude.{◌≡◌, ℕ, List, Option, Some, None, Result, Ok, Err}
use Rattle.std.specs.Option.{option_map}
use Rattle.osm_area.specs.Area.{AreaSpec}
use Rattle.osm_ways.specs.Seen.{seen_decoded}
use Rattle.osm_ways.specs.Selection.{Strategy, extract}
use Rattle.pbf_block.specs.declared.counts.Counts.{Counts}
use Rattle.pbf_frame.specs.declared.device.Drain as drain
use Rattle.pbf_frame.specs.declared.stop.Stop.{Stop}
use Rattle.pbf_frame.specs.declared.stop.Stop.TheVariants.{Refused}
use Rattle.pbf_frame.specs.Devices.{IsFront}
use Rattle.pbf_frame.specs.Verdict.{Verdict}
use Rattle.pbf_header.specs.WrittenHeader.{header_out_for_box, header_out_for_convert}
use Rattle.pbf_pass.specs.Counting.{counts_of, stored_entities}
use Rattle.pbfcut.specs.Converting.{answer_bytes}
use Rattle.pbfcut.specs.Extracting.{extract_bytes, kept_entities}
use Rattle.pbf_pass.specs.Given.{Took}
use Rattle.pbfcut.specs.Kept.{verdict_within, verdict_on, header_read, meaning_read}

-- ---- the promise of a call: what it returns for a file that all its feeds supply

-- a file is refused for its first fault, with nothing written
abbrev pub RefusedFor : List ℕ → Option (List ℕ) → Option (List ℕ) → Stop → Type 0
RefusedFor file old new (Refused e) = ((verdict_on file).1 ≡ Some e) × (new ≡ old)
-- a device failed, or memory was refused: the clause `stops` says more of these
RefusedFor file old new _ = Unit {0}

-- of a file without a fault, this holds of what the drain took
abbrev pub Promised : {D : Type 0} → drain.Ghosts D → D → D → List ℕ → (Counts → List ℕ → Type 0) → Result Counts Stop → Type 0
Promised d old new file holds (Ok counts) = Took d old new (λ written. holds counts written)
Promised d old new file holds (Err stop) = RefusedFor file (d.taken old) (d.taken new) stop

-- ---- what the bytes mean

-- of an extract by a strategy: what is read of them is exactly that of what is read of the file
pub record IsExtract (by : Strategy) (area : AreaSpec) (file written : Verdict) : Type 0 where
  -- they have no fault, and an extract can be written of them
  pub sound : written.1 ≡ None
  -- their header is the file's in written form, with the box
  pub header : header_read written ≡ option_map (header_out_for_box area.bounds) (header_read file)
  -- they mean the extract of what the file means
  pub meaning : meaning_read written ≡ extract by (seen_decoded by.whole area) (meaning_read file)
  -- they have the entities of the file that it keeps, in input order, with all that is stored of them
  pub entities : stored_entities written.0 ≡ kept_entities by area (stored_entities file.0)

pub record Extracted (by : Strategy) (area : AreaSpec) (file : List ℕ) (counts : Counts) (written : List ℕ) : Type 0 where
  -- the file has no fault, and its header can be written
  pub sound : (verdict_on file).1 ≡ None
  -- the bytes decode to its extract, however long they are
  pub extract : IsExtract by area (verdict_on file) (verdict_within None written)
  -- the counts are those of the entities that are kept
  pub counted : counts ≡ counts_of (kept_entities by area (stored_entities (verdict_on file).0))

-- of `convert`: what is read of them is exactly what is read of the file
pub record IsConversion (file written : Verdict) : Type 0 where
  -- they have no fault, and can be converted
  pub sound : written.1 ≡ None
  -- their header is the file's in written form
  pub header : header_read written ≡ option_map header_out_for_convert (header_read file)
  -- they have the file's entities, in order, with all that is stored of them
  pub entities : stored_entities written.0 ≡ stored_entities file.0

pub record Converted (file : List ℕ) (counts : Counts) (written : List ℕ) : Type 0 where
  -- the file has no fault, and its header can be written
  pub sound : (verdict_on file).1 ≡ None
  -- the bytes decode to its conversion, however long they are
  pub conversion : IsConversion (verdict_on file) (verdict_within None written)
  -- the counts are those of its entities
  pub counted : counts ≡ counts_of (stored_entities (verdict_on file).0)

-- ---- the form in which they are written

-- of all bytes that decode to it, those in canonical form; and what is written for them is the same bytes
pub record IsCanonical (answer : Verdict → List ℕ) (file written : List ℕ) : Type 0 where
  pub is : written ≡ answer (verdict_on file)
  pub again : answer (verdict_within None written) ≡ written

-- whatever a call returns, what the drain took is a prefix of them, and all of them if it succeeds
abbrev pub Canonical : {D : Type 0} → drain.Ghosts D → D → D → (Verdict → List ℕ) → List ℕ → Result Counts Stop → Type 0
Canonical d old new answer file (Ok _) = Took d old new (IsCanonical answer file)
Canonical d old new answer file (Err _) = IsFront (d.taken old) (d.taken new) (answer (verdict_on file))

-- ---- both

-- what is extracted of a file
abbrev pub IsExtraction : Strategy → AreaSpec → List ℕ → Counts → List ℕ → Type 0
IsExtraction by area file counts written = Extracted by area file counts written × IsCanonical (extract_bytes by area) file written

-- what is converted
abbrev pub IsConverted : List ℕ → Counts → List ℕ → Type 0
IsConverted file counts written = Converted file counts written × IsCanonical answer_bytes file written
