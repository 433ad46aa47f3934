-- The extracts of a configuration, with the paths of their files.
use Rattle.std.specs.Prelude.{ℕ, List, [], map, Option, unwrap_or}
use Rattle.std.specs.Path.{path_join, path_with_file_name}
use Rattle.osm_config.specs.Areas.{AreaMember, in_file}
use Rattle.osm_config.specs.Configs.{ExtractSpec, config_of_text, if_some_and_distinct}
use Rattle.osm_config.specs.Faults.{OrFault}
use Rattle.osm_polygon.specs.GeoJson.{and_then}

-- where a relative output begins: in the folder that is given, otherwise in the one that the configuration names, otherwise where the program runs
abbrev pub folder_of_outputs : (given named : Option (List ℕ)) → List ℕ
folder_of_outputs given named = unwrap_or given (unwrap_or named [])

-- a relative file of polygons is beside the configuration's own file
abbrev pub with_path : (config : List ℕ) → AreaMember → AreaMember
with_path config (in_file name) = in_file (path_with_file_name config name)
with_path config area = area

abbrev pub with_paths : (config folder : List ℕ) → ExtractSpec → ExtractSpec
with_paths config folder e = record {
  output = path_join folder e.output;
  area = with_path config e.area;
}

-- the extracts of the text of the file at this path, no two with the same output, or the first fault
unfoldable pub extracts_of_text : (config : List ℕ) → (given : Option (List ℕ)) → List ℕ → OrFault (List ExtractSpec)
extracts_of_text config given text =
    and_then (config_of_text text) (λ c.
    if_some_and_distinct (map (with_paths config (folder_of_outputs given c.directory)) c.extracts))
