-- What is cut out, by the texts that the disk has: the polygons of a file, and a configuration.
use Rattle.std.specs.Prelude.{◌≡◌, ℕ, List, Option, Ok}
use Rattle.std.specs.List.{AllZip}
use Rattle.osm_area.specs.Area.{AreaSpec, box_area}
use Rattle.osm_config.specs.Areas.{AreaMember, in_box, in_polygons, in_file}
use Rattle.osm_config.specs.Configs.{ExtractSpec}
use Rattle.osm_config.specs.Paths.{extracts_of_text}
use Rattle.osm_polygon.specs.Polygon.{Rings}
use Rattle.osm_polygon.specs.Polygons.{polygons_area, polygons_of}
use Rattle.osm_polygon.specs.Texts.{polygons_of_text}
use Rattle.pbfcut_cli.specs.declared.words.Region.{Region}
use Rattle.pbfcut_cli.specs.declared.words.Region.TheVariants as region
use Rattle.pbfcut_program.specs.Configured.{OutputArea}
use Rattle.pbfcut_program.specs.Files.{Disk, HasText}

-- the area is that of the polygons that the file of this path has
abbrev pub IsAreaOfFile : Disk → (path : List ℕ) → AreaSpec → Type 0
IsAreaOfFile disk path area = (text : List ℕ) × (polygons : List Rings)
    × HasText disk path text × (polygons_of_text text ≡ Ok polygons) × (area ≡ polygons_area (polygons_of polygons))

-- it is the one that the words name
abbrev pub IsAreaOn : Disk → Region → AreaSpec → Type 0
IsAreaOn disk (region.Box box) area = area ≡ box_area box
IsAreaOn disk (region.Polygon path) area = IsAreaOfFile disk path.now area

-- or the one that a configuration names
abbrev pub IsConfiguredOn : Disk → AreaMember → AreaSpec → Type 0
IsConfiguredOn disk (in_box box) area = area ≡ box_area box
IsConfiguredOn disk (in_polygons polygons) area = area ≡ polygons_area (polygons_of polygons)
IsConfiguredOn disk (in_file path) area = IsAreaOfFile disk path area

-- an OUT is that of this extract
abbrev pub IsExtractOn : Disk → ExtractSpec → OutputArea → Type 0
IsExtractOn disk extract out = (out.output ≡ extract.output) × IsConfiguredOn disk extract.area out.area

-- the OUTs are those of the configuration that the file of this path has, in order
abbrev pub AreOutsOn : Disk → (config : List ℕ) → (folder : Option (List ℕ)) → List OutputArea → Type 0
AreOutsOn disk config folder outs = (text : List ℕ) × (extracts : List ExtractSpec)
    × HasText disk config text × (extracts_of_text config folder text ≡ Ok extracts) × AllZip (IsExtractOn disk) extracts outs
