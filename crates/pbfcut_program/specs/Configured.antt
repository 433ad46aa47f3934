-- What a configuration has cut out: the areas that it names, each with the path of its OUT.
use Rattle.std.specs.Prelude.{◌≡◌, ◌⊎◌, ℕ, List, [], ◌∷◌, ◌++◌, Option, Ok, Err}
use Rattle.osm_area.specs.Area.{AreaSpec, box_area}
use Rattle.osm_config.specs.Areas.{AreaMember, in_box, in_polygons, in_file}
use Rattle.osm_config.specs.Configs.{ExtractSpec}
use Rattle.osm_config.specs.Paths.{extracts_of_text}
use Rattle.osm_config.specs.Readings.{fault_spec_of}
use Rattle.osm_polygon.specs.Polygon.{Rings}
use Rattle.osm_polygon.specs.Polygons.{polygons_area, polygons_of}
use Rattle.osm_polygon.specs.Texts.{polygons_of_text}
use Rattle.pbf_frame.specs.declared.stop.Stop.TheVariants as stop
use Rattle.pbfcut_cli.specs.declared.endings.Ending.{Ending}
use Rattle.pbfcut_cli.specs.declared.endings.Ending.TheVariants as ending
use Rattle.pbfcut_program.specs.Events.{Event, text_read, text_not_read}
use Rattle.pbfcut_program.specs.Fails.{FailsOpening}

-- the polygons of a file: its text was read
abbrev pub MeansFile : (path : List ℕ) → List Event → AreaSpec → Type 0
MeansFile path events area = (text : List ℕ) × (polygons : List Rings)
    × (events ≡ text_read path text ∷ []) × (polygons_of_text text ≡ Ok polygons) × (area ≡ polygons_area (polygons_of polygons))

-- the area of one extract
abbrev pub MeansConfigured : AreaMember → List Event → AreaSpec → Type 0
MeansConfigured (in_box box) events area = (events ≡ []) × (area ≡ box_area box)
MeansConfigured (in_polygons polygons) events area = (events ≡ []) × (area ≡ polygons_area (polygons_of polygons))
MeansConfigured (in_file path) events area = MeansFile path events area

-- an OUT, and the area that is cut out into it
pub record OutputArea : Type 0 where
  pub output : List ℕ
  pub area : AreaSpec

-- each extract, in order
abbrev pub MeansEach : List ExtractSpec → List Event → List OutputArea → Type 0
MeansEach [] events [] = events ≡ []
MeansEach (e ∷ more) events (o ∷ rest) = (own : List Event) × (later : List Event) × (events ≡ own ++ later)
    × (o.output ≡ e.output) × MeansConfigured e.area own o.area × MeansEach more later rest
MeansEach _ events _ = ⊥

-- the text of the configuration was read, and then those of the files of polygons that it names
pub record MeansConfig (config : List ℕ) (folder : Option (List ℕ)) (events : List Event) (outputs : List OutputArea) : Type 0 where
  pub text : List ℕ
  pub extracts : List ExtractSpec
  pub later : List Event
  pub happened : events ≡ text_read config text ∷ later
  pub are : extracts_of_text config folder text ≡ Ok extracts
  pub each : MeansEach extracts later outputs

-- the text isn't read, or is no configuration, by its first fault
abbrev pub FailsText : (config : List ℕ) → (folder : Option (List ℕ)) → Ending → List Event → Type 0
FailsText config folder (ending.Config fault) events = (text : List ℕ) × (events ≡ text_read config text ∷ []) × (extracts_of_text config folder text ≡ Err (fault_spec_of fault))
FailsText config folder ending.CannotOpen events = events ≡ text_not_read config ∷ []
FailsText config folder (ending.Stopped stop.Memory) events = Unit {0}
FailsText config folder _ events = ⊥

-- it is one, and a text that it names isn't read, or isn't that of polygons
abbrev pub FailsLater : (config : List ℕ) → (folder : Option (List ℕ)) → Ending → List Event → Type 0
FailsLater config folder how events = (text : List ℕ) × (extracts : List ExtractSpec) × (later : List Event)
    × (events ≡ text_read config text ∷ later) × (extracts_of_text config folder text ≡ Ok extracts) × FailsOpening how later

abbrev pub FailsConfig : (config : List ℕ) → (folder : Option (List ℕ)) → Ending → List Event → Type 0
FailsConfig config folder how events = FailsText config folder how events ⊎ FailsLater config folder how events
