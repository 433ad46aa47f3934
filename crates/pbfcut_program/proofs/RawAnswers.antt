-- That a raw file is to be written for a file that can be written.
use Rattle.std.proofs.Common.{◌≡◌, ℕ, ◌≤◌, List, length, false, None, Some, refl, ap, ◌∙◌}
use Rattle.osm_area.specs.Area.{AreaSpec}
use Rattle.osm_ways.specs.Selection.{Strategy}
use Rattle.pbf_frame.specs.declared.frame.TheConstants.{FILE_LIMIT}
use Rattle.pbf_frame.specs.Verdict.{Verdict, judged}
use Rattle.pbf_header.specs.WrittenHeader.{EdgesTyped, edges_of}
use Rattle.pbf_pass.specs.HeaderLimit.{limited}
use Rattle.pbf_pass.specs.Judged.{fully}
use Rattle.pbf_pass.proofs.SoundLemmas.{ends_well}
use Rattle.pbf_unpack.specs.RawFrames.{IsRawFile}
use Rattle.pbfcut.specs.Kept.{IsWritable, conversion_of, extract_of, verdict_within}
use Rattle.pbfcut.proofs.KeptLaw.{conversion_kept, extract_kept, same_as_a_file}
use Rattle.pbfcut.specs.Tasks.{converting, copying, extracting}
use Rattle.pbfcut_program.specs.Tasks.{GivesRaw}

limited_sound : (v : Verdict) → (limited v).1 ≡ None → v.1 ≡ None
limited_sound (frames, None) sound = refl
limited_sound (frames, Some fault) sound = sound

pub copy_raw : (file : List ℕ) → (fully (judged false 0 file)).1 ≡ None → GivesRaw copying file
copy_raw file sound = (let v = judged false 0 file in ends_well v.0 v.1 sound)

raw_within : (bytes : List ℕ) → length bytes ≤ FILE_LIMIT → (verdict_within None bytes).1 ≡ None → IsRawFile bytes
raw_within bytes low sound = copy_raw bytes (limited_sound (fully (judged false 0 bytes)) (ap (λ (v : Verdict). v.1) (same_as_a_file bytes low sound) ∙ sound))

pub conversion_raw : (file : List ℕ) → IsWritable file → length (conversion_of file) ≤ FILE_LIMIT → GivesRaw converting file
conversion_raw file sound low = raw_within (conversion_of file) low (conversion_kept file sound).conversion.sound

pub extract_raw : (by : Strategy) (area : AreaSpec) (file : List ℕ) → EdgesTyped (edges_of area.bounds) → IsWritable file → length (extract_of by area file) ≤ FILE_LIMIT → GivesRaw (extracting by area) file
extract_raw by area file typed sound low = raw_within (extract_of by area file) low (extract_kept by area typed file sound).extract.sound
