-- The program's commands, as `clap` sees them.
use Rattle.std.specs.Prelude.{◌≡◌, ◌⊎◌, ◌&&◌, ◌||◌, ℕ, Bool, true, false, codes, List, [], ◌∷◌, Option, Some, None, Result, Ok, Err, IsSome, IsSomeAnd, MatchResult, map, is_some, option_map, unwrap_or}
use Rattle.std.specs.Borrow.{Bor}
use Rattle.std.specs.Option.{option_map_or}
use Rattle.std.specs.Str.{bytes_eq}
use Rattle.clap.specs.Words.{App, IsAmong, Row, Rule, Shape, Text, fault_of, first_of, new_app, new_rule, one_of, subcommand_of, with_rule, with_subcommand}
use Rattle.clap.specs.Simple.{on_top}
use Rattle.clap.specs.declared.builder.ArgAction.TheVariants.{SetTrue}
use Rattle.clap.specs.declared.error.kind.ErrorKind.{ErrorKind}
use Rattle.clap.specs.declared.error.kind.ErrorKind.TheVariants.{DisplayHelp, DisplayVersion}
use Rattle.osm_box.specs.Degrees.{box_of_text}
use Rattle.pbfcut_cli.specs.declared.words.ConfigFiles.{ConfigFiles}
use Rattle.pbfcut_cli.specs.declared.words.Files.{Files}
use Rattle.pbfcut_cli.specs.declared.words.Region.{Region}
use Rattle.pbfcut_cli.specs.declared.words.Region.TheVariants as region
use Rattle.pbfcut_cli.specs.declared.words.Strategy.{Strategy}
use Rattle.pbfcut_cli.specs.declared.words.Strategy.TheVariants as strategy
use Rattle.pbfcut_cli.specs.declared.words.Command.{Command}
use Rattle.pbfcut_cli.specs.declared.words.Command.TheVariants.{Blobs, Info, Show, Check, Convert, Pack, Unpack, Extract, ExtractEach, Help}
use Rattle.pbfcut_cli.specs.declared.words.ChoiceFault.{ChoiceFault}
use Rattle.pbfcut_cli.specs.declared.words.ChoiceFault.TheVariants.{NoRegion, TwoRegions, NoOutput, TwoOutputs, OtherFormat, OtherStrategy, TypesAlone, ConfigAndRegion, ConfigAndOutput, ConfigAndSmart, DirectoryAlone}
use Rattle.pbfcut_cli.specs.declared.programs.Program.{Program}
use Rattle.pbfcut_cli.specs.declared.programs.Program.TheVariants.{Pbfcut, Pbfcutz}
use Rattle.pbfcut_cli.specs.declared.words.CliFault.{CliFault}
use Rattle.pbfcut_cli.specs.declared.words.CliFault.TheVariants as fault

-- ---- arguments

abbrev pub input_rule : Rule
input_rule = record (new_rule (codes "IN")) { required = true }

abbrev pub output_rule : Rule
output_rule = record (new_rule (codes "OUT")) { required = true }

abbrev pub dates_rule : Rule
dates_rule = record (new_rule (codes "dates")) { long = Some (codes "dates"); action = Some SetTrue }

abbrev pub json_rule : Rule
json_rule = record (new_rule (codes "json")) { long = Some (codes "json"); action = Some SetTrue }

abbrev pub progress_rule : Rule
progress_rule =
    record (new_rule (codes "progress")) { long = Some (codes "progress"); action = Some SetTrue }

abbrev pub digests_rule : Rule
digests_rule =
    record (new_rule (codes "digests")) { long = Some (codes "digests"); action = Some SetTrue }

abbrev pub parents_rule : Rule
parents_rule =
    record (new_rule (codes "parents")) { long = Some (codes "parents"); action = Some SetTrue }

abbrev pub raw_rule : Rule
raw_rule = record (new_rule (codes "raw")) { long = Some (codes "raw"); action = Some SetTrue }

-- `--box`, or `-b`
abbrev pub lone_box_rule : Rule
lone_box_rule = record (new_rule (codes "box")) { long = Some (codes "box"); short = Some 98; value_names = 1 }

-- also by the name that Osmium has for it
abbrev pub box_rule : Rule
box_rule = record lone_box_rule { aliases = codes "bbox" ∷ [] }

-- `--polygon`, or `-p`
abbrev pub polygon_rule : Rule
polygon_rule = record (new_rule (codes "polygon")) { long = Some (codes "polygon"); short = Some 112; value_names = 1 }

-- `--types`
abbrev pub types_rule : Rule
types_rule = record (new_rule (codes "types")) { long = Some (codes "types"); value_names = 1 }

-- OUT as the last argument, which there may be
abbrev pub last_rule : Rule
last_rule = new_rule (codes "OUT")

-- OUT as an option, `--output` or `-o`
abbrev pub option_rule : Rule
option_rule = record (new_rule (codes "output")) { long = Some (codes "output"); short = Some 111; value_names = 1 }

-- `--overwrite`, or `-O`
abbrev pub overwrite_rule : Rule
overwrite_rule = record (new_rule (codes "overwrite")) { long = Some (codes "overwrite"); short = Some 79; action = Some SetTrue }

-- a flag of Osmium's
abbrev pub flag_rule : Text → Rule
flag_rule name = record (new_rule name) { long = Some name; action = Some SetTrue }

-- an option of Osmium's with a value, by its name or a letter
abbrev pub named_rule : Text → (letter : ℕ) → Rule
named_rule name letter = record (new_rule name) { long = Some name; short = Some letter; value_names = 1 }

-- ---- commands

abbrev pub blobs_app : App
blobs_app = with_rule (new_app (codes "blobs")) input_rule

abbrev pub show_app : App
show_app = with_rule (with_rule (with_rule (new_app (codes "show")) dates_rule) progress_rule) input_rule

-- a command with its progress and digests
abbrev pub with_told : App → App
with_told app = with_rule (with_rule app progress_rule) digests_rule

abbrev pub check_app : App
check_app = with_rule (with_told (new_app (codes "check"))) input_rule

-- a command that only pbfcutz has
abbrev pub info_app : App
info_app = with_rule (with_rule (new_app (codes "info")) json_rule) input_rule

-- with `--raw`, if its blobs would be compressed otherwise
abbrev pub with_raw : Program → App → App
with_raw Pbfcut app = app
with_raw Pbfcutz app = with_rule app raw_rule

-- OUT as an option too, and what is done with one that exists
abbrev pub with_file_options : App → App
with_file_options app = with_rule (with_rule app option_rule) overwrite_rule

-- `--output-format` and `--input-format`, or `-f` and `-F`
abbrev pub with_formats : App → App
with_formats app = with_rule (with_rule app (named_rule (codes "output-format") 102)) (named_rule (codes "input-format") 70)

-- also the flags for no progress, and for an OUT that is on the disk in the end
abbrev pub with_accepted : App → App
with_accepted app = with_formats (with_rule (with_rule app (flag_rule (codes "no-progress"))) (flag_rule (codes "fsync")))

-- a command of pbfcutz that writes a file
abbrev pub with_any_files : App → App
with_any_files app = with_rule (with_rule (with_accepted (with_file_options app)) input_rule) last_rule

-- one of pbfcut, of which both are arguments
abbrev pub with_both_files : App → App
with_both_files app = with_rule (with_rule (with_accepted app) input_rule) output_rule

abbrev pub with_files : Program → App → App
with_files Pbfcut app = with_both_files app
with_files Pbfcutz app = with_any_files app

abbrev pub convert_app : Program → App
convert_app program = with_files program (with_raw program (with_told (new_app (codes "convert"))))

abbrev pub pack_app : App
pack_app = with_any_files (with_told (new_app (codes "pack")))

abbrev pub unpack_app : App
unpack_app = with_any_files (with_told (new_app (codes "unpack")))

-- `extract` with its flags
abbrev pub options_app : App
options_app = with_rule (with_told (new_app (codes "extract"))) parents_rule

-- the command with what is cut out
abbrev pub with_region : App → App
with_region app = with_rule (with_rule app box_rule) polygon_rule

-- `--set-bounds`, `--strategy` or `-s`, and `--types`
abbrev pub with_strategy : App → App
with_strategy app = with_rule (with_rule (with_rule app (flag_rule (codes "set-bounds"))) (named_rule (codes "strategy") 115)) types_rule

-- `--config` or `-c`, and `--directory` or `-d`, which only pbfcutz has
abbrev pub with_config : Program → App → App
with_config Pbfcut app = app
with_config Pbfcutz app = with_rule (with_rule app (named_rule (codes "config") 99)) (named_rule (codes "directory") 100)

abbrev pub extract_app : Program → App
extract_app program = with_files program (with_strategy (with_config program (with_region (with_raw program options_app))))

abbrev pub versioned : Shape → Shape
versioned s = record s { has_version = true }

abbrev pub settled : Shape → Shape
settled s = record (versioned s) {
  no_binary_name = true;
  subcommand_required = true;
  disable_help_subcommand = true;
}

abbrev pub bare_app : App
bare_app = on_top settled (new_app (codes "pbfcut"))

-- the commands that write entities
abbrev pub writers_app : Program → App
writers_app program = with_subcommand (with_subcommand bare_app (extract_app program).top) (convert_app program).top

-- those that write the same bytes in other blobs
abbrev pub with_packing : Program → App → App
with_packing Pbfcut app = app
with_packing Pbfcutz app = with_subcommand (with_subcommand app pack_app.top) unpack_app.top

-- `info`
abbrev pub with_info : Program → App → App
with_info Pbfcut app = app
with_info Pbfcutz app = with_subcommand app info_app.top

abbrev pub program_app : Program → App
program_app program = with_info program (with_subcommand (with_subcommand (with_subcommand
    (with_packing program (writers_app program)) check_app.top) show_app.top) blobs_app.top)

-- ---- what the words mean

-- the value of an argument, empty if it has none
abbrev pub argument_value : Text → List Row → Text
argument_value id rows = unwrap_or (first_of id rows) []

abbrev pub ReadsFlag : Bool → Text → List Row → Type 0
ReadsFlag flag id rows = (one_of id rows ≡ None → flag ≡ false)
    × (one_of id rows ≡ Some (codes "true") → flag ≡ true)
    × (one_of id rows ≡ Some (codes "false") → flag ≡ false)

-- the argument is absent, or has this value
abbrev pub is_or_absent : (value : Text) → Option Text → Bool
is_or_absent value given = option_map_or (λ text. bytes_eq text value) given true

-- each format that is named is that of PBF files
abbrev pub names_pbf : List Row → Bool
names_pbf rows = is_or_absent (codes "pbf") (first_of (codes "output-format") rows)
    && is_or_absent (codes "pbf") (first_of (codes "input-format") rows)

-- the strategy isn't named, or is `complete_ways`
abbrev pub names_complete_ways : List Row → Bool
names_complete_ways rows = is_or_absent (codes "complete_ways") (first_of (codes "strategy") rows)

-- the strategy is `smart`
abbrev pub names_smart : List Row → Bool
names_smart rows = option_map_or (λ text. bytes_eq text (codes "smart")) (first_of (codes "strategy") rows) false

-- the argument is there
abbrev pub is_given : Text → List Row → Bool
is_given id rows = is_some (first_of id rows)

-- there is a box or a polygon
abbrev pub names_region : List Row → Bool
names_region rows = is_given (codes "box") rows || is_given (codes "polygon") rows

-- there is an OUT, as the last argument or as an option
abbrev pub names_output : List Row → Bool
names_output rows = is_given (codes "OUT") rows || is_given (codes "output") rows

-- the path of OUT: one of the two arguments that may have it
abbrev pub ReadsOutput : List Row → Bor Text → Type 0
ReadsOutput rows path = ((first_of (codes "OUT") rows ≡ Some path.now) × (first_of (codes "output") rows ≡ None))
    ⊎ ((first_of (codes "OUT") rows ≡ None) × (first_of (codes "output") rows ≡ Some path.now))

-- what is cut out: one of the two arguments that may say it
abbrev pub ReadsRegion : List Row → Region → Type 0
ReadsRegion rows (region.Box area) = (first_of (codes "polygon") rows ≡ None)
    × IsSomeAnd (first_of (codes "box") rows) (λ text. box_of_text text ≡ Ok area)
ReadsRegion rows (region.Polygon path) = (first_of (codes "box") rows ≡ None)
    × (first_of (codes "polygon") rows ≡ Some path.now)

-- ways are complete, and parents are kept or not
abbrev pub ReadsParents : List Row → Bool → Type 0
ReadsParents rows parents = (names_complete_ways rows ≡ true)
    × (first_of (codes "types") rows ≡ None) × ReadsFlag parents (codes "parents") rows

-- which strategy the rows name; the types of `smart` are `multipolygon` if none are given
abbrev pub ReadsStrategy : List Row → Strategy → Type 0
ReadsStrategy rows strategy.CompleteWays = ReadsParents rows false
ReadsStrategy rows strategy.AllParents = ReadsParents rows true
ReadsStrategy rows (strategy.Smart types) = (names_smart rows ≡ true)
    × (types.now ≡ unwrap_or (first_of (codes "types") rows) (codes "multipolygon"))

-- the files and flags of a command that writes a file; nothing is read of `--fsync`, and the formats have one value
pub record ReadsFiles (rows : List Row) (files : Files) : Type 0 where
  pub formats : names_pbf rows ≡ true
  pub input : files.input.now ≡ argument_value (codes "IN") rows
  pub output : ReadsOutput rows files.output
  pub overwrite : ReadsFlag files.overwrite (codes "overwrite") rows
  pub raw : ReadsFlag files.raw (codes "raw") rows
  pub progress : ReadsFlag files.progress (codes "progress") rows
  pub quiet : ReadsFlag files.quiet (codes "no-progress") rows
  pub digests : ReadsFlag files.digests (codes "digests") rows

-- the same of a command that writes a file for each area of a configuration, which is neither given an area nor an OUT
pub record ReadsConfigFiles (rows : List Row) (files : ConfigFiles) : Type 0 where
  pub no_region : names_region rows ≡ false
  pub no_output : names_output rows ≡ false
  pub formats : names_pbf rows ≡ true
  pub input : files.input.now ≡ argument_value (codes "IN") rows
  pub config : first_of (codes "config") rows ≡ Some files.config.now
  pub directory : option_map (λ s. s.now) files.directory ≡ first_of (codes "directory") rows
  pub overwrite : ReadsFlag files.overwrite (codes "overwrite") rows
  pub raw : ReadsFlag files.raw (codes "raw") rows
  pub progress : ReadsFlag files.progress (codes "progress") rows
  pub quiet : ReadsFlag files.quiet (codes "no-progress") rows
  pub digests : ReadsFlag files.digests (codes "digests") rows

-- the command has this name, and its values are those of the rows
abbrev pub ReadsAs : Text → List Row → Command → Type 0
ReadsAs name rows (Blobs input) = (name ≡ codes "blobs") × (input.now ≡ argument_value (codes "IN") rows)
ReadsAs name rows (Info input json) = (name ≡ codes "info")
    × (input.now ≡ argument_value (codes "IN") rows) × ReadsFlag json (codes "json") rows
ReadsAs name rows (Show input dates progress) = (name ≡ codes "show")
    × (input.now ≡ argument_value (codes "IN") rows) × ReadsFlag dates (codes "dates") rows
    × ReadsFlag progress (codes "progress") rows
ReadsAs name rows (Check input progress digests) = (name ≡ codes "check")
    × (input.now ≡ argument_value (codes "IN") rows) × ReadsFlag progress (codes "progress") rows
    × ReadsFlag digests (codes "digests") rows
ReadsAs name rows (Convert files) = (name ≡ codes "convert") × ReadsFiles rows files
ReadsAs name rows (Pack files) = (name ≡ codes "pack") × ReadsFiles rows files
ReadsAs name rows (Unpack files) = (name ≡ codes "unpack") × ReadsFiles rows files
ReadsAs name rows (Extract region by files) = (name ≡ codes "extract")
    × (is_given (codes "config") rows ≡ false) × (is_given (codes "directory") rows ≡ false)
    × ReadsStrategy rows by × ReadsRegion rows region × ReadsFiles rows files
ReadsAs name rows (ExtractEach parents files) = (name ≡ codes "extract")
    × ReadsParents rows parents × ReadsConfigFiles rows files
ReadsAs name rows (Help text) = ⊥

abbrev pub IsRead : Option (Text × List Row) → Command → Type 0
IsRead None c = ⊥
IsRead (Some p) c = ReadsAs p.0 p.1 c

-- OUT is nowhere, or twice, or a format is another one
abbrev pub HasOutputFault : List Row → ChoiceFault → Type 0
HasOutputFault rows NoOutput = (first_of (codes "OUT") rows ≡ None) × (first_of (codes "output") rows ≡ None)
HasOutputFault rows TwoOutputs = IsSome (first_of (codes "OUT") rows) × IsSome (first_of (codes "output") rows)
HasOutputFault rows OtherFormat = names_pbf rows ≡ false
HasOutputFault rows _ = ⊥

-- the strategy is another one, or there are types for one that takes none
abbrev pub HasStrategyFault : List Row → CliFault → Type 0
HasStrategyFault rows (fault.Choice OtherStrategy) = (names_complete_ways rows ≡ false) × (names_smart rows ≡ false)
HasStrategyFault rows (fault.Choice TypesAlone) = IsSome (first_of (codes "types") rows) × (names_smart rows ≡ false)
HasStrategyFault rows _ = ⊥

-- there is neither a box nor a polygon, or both, or the box has this fault
abbrev pub HasRegionFault : List Row → CliFault → Type 0
HasRegionFault rows (fault.Box f) = IsSomeAnd (first_of (codes "box") rows) (λ text. box_of_text text ≡ Err f)
HasRegionFault rows (fault.Choice NoRegion) = (first_of (codes "box") rows ≡ None) × (first_of (codes "polygon") rows ≡ None)
HasRegionFault rows (fault.Choice TwoRegions) = IsSome (first_of (codes "box") rows) × IsSome (first_of (codes "polygon") rows)
HasRegionFault rows _ = ⊥

-- the same of the files of a command
abbrev pub HasFilesFault : List Row → CliFault → Type 0
HasFilesFault rows f = (choice : ChoiceFault) × (f ≡ fault.Choice choice) × HasOutputFault rows choice

-- without a configuration there is a folder for its files, or a fault in what is cut out, or in the files
abbrev pub HasAreaFault : List Row → CliFault → Type 0
HasAreaFault rows f = ((f ≡ fault.Choice DirectoryAlone) × (is_given (codes "directory") rows ≡ true))
    ⊎ (HasRegionFault rows f ⊎ HasFilesFault rows f)

-- with one there is an area or an OUT too, or it is for `smart`, or a format is another one
abbrev pub HasConfigFault : List Row → CliFault → Type 0
HasConfigFault rows (fault.Choice ConfigAndSmart) = names_smart rows ≡ true
HasConfigFault rows (fault.Choice ConfigAndRegion) = names_region rows ≡ true
HasConfigFault rows (fault.Choice ConfigAndOutput) = names_output rows ≡ true
HasConfigFault rows (fault.Choice OtherFormat) = names_pbf rows ≡ false
HasConfigFault rows _ = ⊥

abbrev pub HasExtractFault : List Row → CliFault → Type 0
HasExtractFault rows f = HasStrategyFault rows f
    ⊎ (((is_given (codes "config") rows ≡ true) × HasConfigFault rows f)
    ⊎ ((is_given (codes "config") rows ≡ false) × HasAreaFault rows f))

-- another command that writes a file
abbrev pub IsWriter : Text → Type 0
IsWriter name = (name ≡ codes "convert") ⊎ ((name ≡ codes "pack") ⊎ (name ≡ codes "unpack"))

-- they have this fault: one of what `extract` cuts out, or of a file that is written
abbrev pub HasFault : Option (Text × List Row) → CliFault → Type 0
HasFault None f = ⊥
HasFault (Some p) f = ((p.0 ≡ codes "extract") × HasExtractFault p.1 f) ⊎ (IsWriter p.0 × HasFilesFault p.1 f)

-- the name is that of a command
abbrev pub IsOffered : Option (Text × List Row) → Type 0
IsOffered None = ⊥
IsOffered (Some p) = (p.0 ≡ codes "extract") ⊎ ((p.0 ≡ codes "convert") ⊎ ((p.0 ≡ codes "pack")
    ⊎ ((p.0 ≡ codes "unpack") ⊎ ((p.0 ≡ codes "check") ⊎ ((p.0 ≡ codes "show")
    ⊎ ((p.0 ≡ codes "blobs") ⊎ (p.0 ≡ codes "info")))))))

abbrev pub IsHelp : Command → Type 0
IsHelp (Help text) = Unit {0}
IsHelp _ = ⊥

-- an error of this kind is a request
abbrev pub IsRequest : ErrorKind → Type 0
IsRequest DisplayHelp = Unit {0}
IsRequest DisplayVersion = Unit {0}
IsRequest _ = ⊥

-- an error of this kind comes to this: to a line unless it is a request, or memory was refused
abbrev pub ComesTo : ErrorKind → CliFault → Type 0
ComesTo kind (fault.Line text) = IsRequest kind → ⊥
ComesTo kind fault.Memory = Unit {0}
ComesTo kind f = ⊥

-- `clap` takes the words: no kind of error comes of them
abbrev pub AreTaken : Program → List Text → Type 0
AreTaken program words = fault_of (program_app program) words ≡ []

-- they request help or the version: that is the kind that comes of them
abbrev pub AskForHelp : Program → List Text → Type 0
AskForHelp program words = IsAmong DisplayHelp (fault_of (program_app program) words)
    ⊎ IsAmong DisplayVersion (fault_of (program_app program) words)

-- the command is the one that `clap` reads in the words, which it takes; or it is help, which they request
abbrev pub IsCommandOf : Program → List Text → Command → Type 0
IsCommandOf program words command = (AreTaken program words × IsRead (subcommand_of (program_app program) words) command)
    ⊎ (AskForHelp program words × IsHelp command)

-- `clap` refuses the words: an error comes of them that is no request
abbrev pub AreRefused : Program → List Text → Type 0
AreRefused program words = (kind : ErrorKind) × IsAmong kind (fault_of (program_app program) words) × (IsRequest kind → ⊥)

-- why the words are no command: `clap` refuses them, or it takes them, but they have this fault
abbrev pub IsFaultOf : Program → List Text → CliFault → Type 0
IsFaultOf program words (fault.Line text) = AreRefused program words
IsFaultOf program words fault.Memory = Unit {0}
IsFaultOf program words f = AreTaken program words × HasFault (subcommand_of (program_app program) words) f

-- the texts of the words
abbrev pub word_texts : List (Bor Text) → List Text
word_texts = map (λ w. w.now)
