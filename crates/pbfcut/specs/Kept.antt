-- What is read of a file, and what is written for it.
use Rattle.std.specs.Prelude.{◌≡◌, ℕ, false, List, map, Option, Some, None}
use Rattle.std.specs.Option.{option_map}
use Rattle.osm_area.specs.Area.{AreaSpec}
use Rattle.osm_entity.specs.Entity as entity
use Rattle.osm_entity.specs.Entity.{Decoded}
use Rattle.pbf_header.specs.Header.{HeaderSpec}
use Rattle.pbf_frame.specs.declared.frame.TheConstants.{FILE_LIMIT}
use Rattle.pbf_frame.specs.Verdict.{Verdict, judged_within}
use Rattle.pbfcut.specs.Converting.{answer_bytes}
use Rattle.osm_ways.specs.Selection.{Strategy}
use Rattle.pbf_pass.specs.HeaderLimit.{limited}
use Rattle.pbf_pass.specs.Counting.{stored_entities}
use Rattle.pbfcut.specs.Extracting.{extract_bytes}
use Rattle.pbf_pass.specs.Judged.{fully}
use Rattle.pbf_pass.specs.Pass.{file_header}

-- ---- what is read of bytes

-- the verdict of all phases on bytes, and then of the limit of their header; with a limit of their length or without one
abbrev pub verdict_within : Option ℕ → List ℕ → Verdict
verdict_within limit bytes = limited (fully (judged_within limit false 0 bytes))

-- that on a file: the one of `judged_writable`, if the bytes are known
abbrev pub verdict_on : List ℕ → Verdict
verdict_on = verdict_within (Some FILE_LIMIT)

-- a file has no fault, and its header isn't too long to be written
abbrev pub IsWritable : List ℕ → Type 0
IsWritable file = (verdict_on file).1 ≡ None

abbrev pub header_read : Verdict → Option HeaderSpec
header_read verdict = option_map (λ p. p.1) (file_header verdict.0)

-- what the entities mean: places in nanodegrees and times in milliseconds
abbrev pub meaning_read : Verdict → List Decoded
meaning_read verdict = map entity.decoded (stored_entities verdict.0)

-- ---- what is written for a file

abbrev pub conversion_of : List ℕ → List ℕ
conversion_of file = answer_bytes (verdict_on file)

abbrev pub extract_of : Strategy → AreaSpec → List ℕ → List ℕ
extract_of by area file = extract_bytes by area (verdict_on file)
