-- A reading, as the text's definition sees it.
use Rattle.std.specs.Prelude.{◌≡◌, ℕ, List, map, option_map, Result, Ok, Err}
use Rattle.std.specs.Borrow.{Bor}
use Rattle.std.specs.Global.{Vec}
use Rattle.std.specs.Result.{result_map_both}
use Rattle.std.specs.String.{string_bytes}
use Rattle.osm_box.specs.Degrees.{Parts}
use Rattle.osm_config.specs.declared.area.EdgeTexts.{EdgeTexts}
use Rattle.osm_config.specs.declared.config.Config.{Config}
use Rattle.osm_config.specs.declared.config.ConfiguredArea.{ConfiguredArea}
use Rattle.osm_config.specs.declared.config.ConfiguredArea.TheVariants.{InBox, InPolygons, InFile}
use Rattle.osm_config.specs.declared.config.ConfiguredExtract.{ConfiguredExtract}
use Rattle.osm_config.specs.declared.fault.ConfigError.{ConfigError}
use Rattle.osm_config.specs.declared.fault.ConfigError.TheVariants as error
use Rattle.osm_config.specs.declared.fault.ConfigFault.{ConfigFault}
use Rattle.osm_config.specs.declared.fault.ConfigStop.{ConfigStop}
use Rattle.osm_config.specs.declared.fault.ConfigStop.TheVariants as stop
use Rattle.osm_polygon.specs.RingPlaces.{rings_of}
use Rattle.osm_config.specs.Areas.{AreaMember, in_box, in_polygons, in_file}
use Rattle.osm_config.specs.Configs.{ConfigSpec, ExtractSpec}
use Rattle.osm_config.specs.Edges.{edge_parts}
use Rattle.osm_config.specs.Faults.{FaultSpec, OrFault}

abbrev pub fault_spec_of : ConfigFault → FaultSpec
fault_spec_of f = record { extract = f.extract; member = string_bytes f.member; reason = f.reason }

abbrev pub area_member_of : ConfiguredArea → AreaMember
area_member_of (InBox bounds) = in_box bounds
area_member_of (InPolygons polygons) = in_polygons (map rings_of polygons.items)
area_member_of (InFile name) = in_file (string_bytes name)

abbrev pub extract_member_of : ConfiguredExtract → ExtractSpec
extract_member_of e = record { output = string_bytes e.output; area = area_member_of e.area }

abbrev pub config_of : Config → ConfigSpec
config_of c = record {
  directory = option_map string_bytes c.directory;
  extracts = map extract_member_of c.extracts.items;
}

-- what was read is what the text has, or its fault, or memory was refused
abbrev pub Reads : {A : Type 0} → OrFault A → Result A ConfigStop → Type 0
Reads text (Ok found) = text ≡ Ok found
Reads text (Err (stop.Refused extract name reason)) =
    text ≡ Err (record { extract = extract; member = name.now; reason = reason })
Reads text (Err stop.Memory) = Unit {0}

-- the same of an area, of extracts, of the edges of a box, and of a string
abbrev pub ReadsArea : OrFault AreaMember → Result ConfiguredArea ConfigStop → Type 0
ReadsArea text read = Reads text (result_map_both area_member_of (λ e. e) read)

abbrev pub ReadsExtracts : OrFault (List ExtractSpec) → Result (Vec ConfiguredExtract) ConfigStop → Type 0
ReadsExtracts text read = Reads text (result_map_both (λ extracts. map extract_member_of extracts.items) (λ e. e) read)

abbrev pub ReadsEdges : OrFault Parts → Result EdgeTexts ConfigStop → Type 0
ReadsEdges text read = Reads text (result_map_both edge_parts (λ e. e) read)

abbrev pub ReadsString : OrFault (List ℕ) → Result (Bor (List ℕ)) ConfigStop → Type 0
ReadsString text read = Reads text (result_map_both (λ s. s.now) (λ e. e) read)

-- the same of what a caller is given
abbrev pub ReadsConfig : {A : Type 0} → OrFault A → Result A ConfigError → Type 0
ReadsConfig text (Ok found) = text ≡ Ok found
ReadsConfig text (Err (error.Refused f)) = text ≡ Err (fault_spec_of f)
ReadsConfig text (Err error.Memory) = Unit {0}

-- the error says what the stop says, or memory was refused
abbrev pub IsStopError : ConfigStop → ConfigError → Type 0
IsStopError (stop.Refused extract name reason) (error.Refused f) =
    fault_spec_of f ≡ record { extract = extract; member = name.now; reason = reason }
IsStopError stop.Memory (error.Refused f) = ⊥
IsStopError stop error.Memory = Unit {0}
