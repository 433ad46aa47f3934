-- The configuration that a text is.
use Rattle.std.specs.Prelude.{ℕ, ◌+◌, Bool, true, List, [], ◌∷◌, ◌++◌, length, map, codes, if◌then◌else◌}
use Rattle.std.specs.Prelude.{Option, Some, None, Ok}
use Rattle.std.specs.List.{list_any}
use Rattle.std.specs.Str.{bytes_eq}
use Rattle.json.specs.Json.{Json, Items, no_items, item, document}
use Rattle.osm_config.specs.declared.fault.ConfigReason.TheVariants as reason
use Rattle.osm_config.specs.declared.names.ConfigObject.TheVariants as kind
use Rattle.osm_config.specs.Areas.{AreaMember, area_in}
use Rattle.osm_config.specs.Faults.{OrFault, config_fault}
use Rattle.osm_config.specs.Members.{file_name_in, judge_object, list_in, optional_string, required}
use Rattle.osm_polygon.specs.GeoJson.{and_then}
use Rattle.osm_polygon.specs.Texts.{without_mark}

-- an extract: the name of its output file, and its area
pub record ExtractSpec : Type 0 where
  pub output : List ℕ
  pub area : AreaMember

-- a configuration: the folder of the outputs, if one is named, and the extracts
pub record ConfigSpec : Type 0 where
  pub directory : Option (List ℕ)
  pub extracts : List ExtractSpec

-- ---- an extract

abbrev pub is_pbf : Option (List ℕ) → Bool
is_pbf None = true
is_pbf (Some format) = bytes_eq format (codes "pbf")

-- `description` is a string, if it is there, and `output_format` is `pbf`
abbrev pub judge_strings : (extract : ℕ) → Json → OrFault Unit
judge_strings extract value =
    and_then (optional_string extract (codes "description") value) (λ _.
    and_then (optional_string extract (codes "output_format") value) (λ format.
    if is_pbf format then Ok tt else config_fault extract (codes "output_format") reason.Format))

abbrev pub extract_in : (extract : ℕ) → Json → OrFault ExtractSpec
extract_in extract value =
    and_then (judge_object extract [] kind.Extract value) (λ _.
    and_then (file_name_in extract (codes "output") value) (λ output.
    and_then (judge_strings extract value) (λ _.
    and_then (area_in extract value) (λ area.
    Ok (record { output = output; area = area })))))

-- ---- the extracts, which are counted from 1

-- those so far, with one more
abbrev pub with_extract : List ExtractSpec → Json → OrFault (List ExtractSpec)
with_extract done value = and_then (extract_in (length done + 1) value) (λ e. Ok (done ++ e ∷ []))

abbrev pub extracts_after : List ExtractSpec → Items → OrFault (List ExtractSpec)
extracts_after done no_items = Ok done
extracts_after done (item value more) =
    and_then (with_extract done value) (λ d. extracts_after d more)

-- the number of the first output that comes before, after these
abbrev pub repeated_after : (before : List (List ℕ)) → List (List ℕ) → Option ℕ
repeated_after before [] = None
repeated_after before (output ∷ more) =
    if list_any (bytes_eq output) before then Some (length before + 1)
    else repeated_after (before ++ output ∷ []) more

abbrev pub unless_repeated : List ExtractSpec → Option ℕ → OrFault (List ExtractSpec)
unless_repeated extracts None = Ok extracts
unless_repeated extracts (Some number) = config_fault number (codes "output") reason.SameOutput

-- there is an extract, and no two have the same output
abbrev pub if_some_and_distinct : List ExtractSpec → OrFault (List ExtractSpec)
if_some_and_distinct [] = config_fault 0 (codes "extracts") reason.Empty
if_some_and_distinct (e ∷ more) =
    unless_repeated (e ∷ more) (repeated_after [] (map (λ e. e.output) (e ∷ more)))

abbrev pub extracts_in : Json → OrFault (List ExtractSpec)
extracts_in value =
    and_then (required 0 (codes "extracts") value) (λ list.
    and_then (list_in 0 (codes "extracts") list) (λ items.
    and_then (extracts_after [] items) if_some_and_distinct))

-- ---- a text

abbrev pub config_in : Json → OrFault ConfigSpec
config_in value =
    and_then (judge_object 0 [] kind.Whole value) (λ _.
    and_then (optional_string 0 (codes "directory") value) (λ directory.
    and_then (extracts_in value) (λ extracts.
    Ok (record { directory = directory; extracts = extracts }))))

abbrev pub config_of_json : Option Json → OrFault ConfigSpec
config_of_json None = config_fault 0 [] reason.Json
config_of_json (Some value) = config_in value

-- the configuration of the JSON that a text is, after a byte order mark or none, or its first fault
unfoldable pub config_of_text : List ℕ → OrFault ConfigSpec
config_of_text text = config_of_json (document (without_mark text))
