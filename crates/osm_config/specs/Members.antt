-- The members of an object: which it may have, and what is in them.
use Rattle.std.specs.Prelude.{ℕ, ◌==◌, Bool, not, ◌||◌, List, [], ◌∷◌, ◌++◌, length, codes, if◌then◌else◌}
use Rattle.std.specs.Prelude.{Option, Some, None, Ok}
use Rattle.std.specs.List.{list_any}
use Rattle.std.specs.Str.{bytes_eq}
use Rattle.json.specs.Json.{Json, Items, Members, no_members, member}
use Rattle.json.specs.Find.{get, as_array, as_object, as_str}
use Rattle.osm_config.specs.declared.fault.ConfigReason.TheVariants as reason
use Rattle.osm_config.specs.declared.names.ConfigObject.{ConfigObject}
use Rattle.osm_config.specs.declared.names.ConfigObject.TheVariants as object
use Rattle.osm_config.specs.Faults.{OrFault, config_fault, or_fault}
use Rattle.osm_polygon.specs.GeoJson.{and_then}

-- ---- names

-- the members that such an object may have
abbrev pub names_of : ConfigObject → List (List ℕ)
names_of object.Whole = codes "directory" ∷ codes "extracts" ∷ []
names_of object.Extract =
    codes "output" ∷ codes "output_format" ∷ codes "description"
    ∷ codes "bbox" ∷ codes "polygon" ∷ codes "multipolygon" ∷ []
names_of object.Edges = codes "left" ∷ codes "bottom" ∷ codes "right" ∷ codes "top" ∷ []
names_of object.File = codes "file_name" ∷ codes "file_type" ∷ []

abbrev pub is_known : ConfigObject → List ℕ → Bool
is_known object name = list_any (bytes_eq name) (names_of object)

-- the names so far, with one more, which has to be known and new
abbrev pub with_name : (extract : ℕ) → ConfigObject → List (List ℕ) → List ℕ → OrFault (List (List ℕ))
with_name extract object seen name =
    if not (is_known object name) then config_fault extract name reason.Unknown
    else if list_any (λ s. bytes_eq s name) seen then config_fault extract name reason.Repeated
    else Ok (seen ++ name ∷ [])

abbrev pub names_after : (extract : ℕ) → ConfigObject → List (List ℕ) → Members → OrFault (List (List ℕ))
names_after extract object seen no_members = Ok seen
names_after extract object seen (member name value more) =
    and_then (with_name extract object seen name) (λ s. names_after extract object s more)

-- each member is known, and is there once
abbrev pub judge_names : (extract : ℕ) → ConfigObject → Members → OrFault Unit
judge_names extract object members =
    and_then (names_after extract object [] members) (λ _. Ok tt)

abbrev pub judge_object : (extract : ℕ) → (name : List ℕ) → ConfigObject → Json → OrFault Unit
judge_object extract name object value =
    and_then (or_fault extract name reason.Shape (as_object value)) (judge_names extract object)

-- ---- values

abbrev pub required : (extract : ℕ) → (name : List ℕ) → Json → OrFault Json
required extract name value = or_fault extract name reason.Missing (get name value)

abbrev pub string_in : (extract : ℕ) → (name : List ℕ) → Json → OrFault (List ℕ)
string_in extract name value = or_fault extract name reason.Shape (as_str value)

abbrev pub list_in : (extract : ℕ) → (name : List ℕ) → Json → OrFault Items
list_in extract name value = or_fault extract name reason.Shape (as_array value)

abbrev pub string_if_some : (extract : ℕ) → (name : List ℕ) → Option Json → OrFault (Option (List ℕ))
string_if_some extract name None = Ok None
string_if_some extract name (Some value) =
    and_then (string_in extract name value) (λ string. Ok (Some string))

abbrev pub optional_string : (extract : ℕ) → (name : List ℕ) → Json → OrFault (Option (List ℕ))
optional_string extract name value = string_if_some extract name (get name value)

-- a name that a file can have: `-` is standard output elsewhere
abbrev pub is_file_name : List ℕ → Bool
is_file_name name = not (length name == 0 || bytes_eq name (codes "-"))

abbrev pub file_name_in : (extract : ℕ) → (name : List ℕ) → Json → OrFault (List ℕ)
file_name_in extract name value =
    and_then (required extract name value) (λ found.
    and_then (string_in extract name found) (λ file.
    if is_file_name file then Ok file else config_fault extract name reason.FileName))
