-- How an ending is reported: its exit status, and what is written to standard error.
use Rattle.std.specs.Prelude.{ℕ, ◌==◌, List, [], ◌∷◌, ◌++◌, Option, Some, None, codes, decimal, if◌then◌else◌}
use Rattle.std.specs.Char.{is_ascii_graphic}
use Rattle.std.specs.List.{list_all}
use Rattle.std.specs.String.{string_bytes}
use Rattle.pbf_wire.specs.declared.fault.Reason.{Reason}
use Rattle.pbf_wire.specs.declared.fault.Reason.TheVariants.{Missing}
use Rattle.pbf_wire.specs.Reasons as wire
use Rattle.pbf_frame.specs.declared.stop.Stop.{Stop}
use Rattle.pbf_frame.specs.declared.stop.Stop.TheVariants as stop
use Rattle.osm_box.specs.declared.bounding_box.BoxFault.{BoxFault}
use Rattle.osm_box.specs.declared.bounding_box.BoxFault.TheVariants as box
use Rattle.pbf_unpack.specs.declared.fault.UnpackReason.{UnpackReason}
use Rattle.pbf_unpack.specs.declared.reports.Place.{Place}
use Rattle.pbf_unpack.specs.declared.reports.Place.TheVariants as place
use Rattle.pbf_unpack.specs.Reports.{unpack_reason_name}
use Rattle.osm_config.specs.declared.fault.ConfigError.{ConfigError}
use Rattle.osm_config.specs.declared.fault.ConfigError.TheVariants as config
use Rattle.osm_config.specs.declared.fault.ConfigFault.{ConfigFault}
use Rattle.osm_config.specs.declared.fault.ConfigReason.{ConfigReason}
use Rattle.osm_config.specs.declared.fault.ConfigReason.TheVariants as wrong
use Rattle.pbfcut_cli.specs.declared.packed.PackedRefusal.{PackedRefusal}
use Rattle.pbfcut_cli.specs.declared.programs.Program.{Program}
use Rattle.pbfcut_cli.specs.declared.programs.Program.TheVariants as program
use Rattle.osm_polygon.specs.declared.fault.PolyError.{PolyError}
use Rattle.osm_polygon.specs.declared.fault.PolyError.TheVariants as error
use Rattle.osm_polygon.specs.declared.fault.PolyPlace.{PolyPlace}
use Rattle.osm_polygon.specs.declared.fault.PolyPlace.TheVariants.{Line, Ring, Text}
use Rattle.osm_polygon.specs.declared.fault.PolyReason.{PolyReason}
use Rattle.osm_polygon.specs.declared.fault.PolyReason.TheVariants as poly
use Rattle.pbfcut_cli.specs.declared.words.ChoiceFault.{ChoiceFault}
use Rattle.pbfcut_cli.specs.declared.words.ChoiceFault.TheVariants.{NoRegion, TwoRegions, NoOutput, TwoOutputs, OtherFormat, OtherStrategy, TypesAlone, ConfigAndRegion, ConfigAndOutput, ConfigAndSmart, DirectoryAlone}
use Rattle.pbfcut_cli.specs.declared.words.CliFault.{CliFault}
use Rattle.pbfcut_cli.specs.declared.words.CliFault.TheVariants as fault
use Rattle.pbfcut_cli.specs.declared.endings.Ending.{Ending}
use Rattle.pbfcut_cli.specs.declared.endings.Ending.TheVariants as ending

-- ---- a stop of the engine

abbrev pub status_of : Stop → ℕ
status_of (stop.Refused f) = 1
status_of stop.Read = 3
status_of stop.Write = 3
status_of stop.Memory = 4
status_of (stop.Changed pass) = 5

-- as `55 Feature`
abbrev pub plain_text : ℕ → List ℕ → List ℕ
plain_text number name = decimal number ++ codes " " ++ name

abbrev pub field_text : ℕ → List ℕ
field_text field = codes "(" ++ decimal field ++ codes ")"

-- as `25 Missing(1)`, or without a field
abbrev pub reason_text : Reason → List ℕ
reason_text (Missing field) = plain_text 25 (codes "Missing") ++ field_text field
reason_text r = plain_text (wire.reason_number r) (wire.reason_name r)

abbrev pub refused_text : (program : List ℕ) → ℕ → (reason : List ℕ) → List ℕ
refused_text program offset reason = program ++ codes ": refused at " ++ decimal offset ++ codes ": " ++ reason

-- the line of a program, without its end
abbrev pub ending_line : (program : List ℕ) → Stop → List ℕ
ending_line program (stop.Refused f) = refused_text program f.offset (reason_text f.reason)
ending_line program stop.Read = program ++ codes ": read failed"
ending_line program stop.Write = program ++ codes ": write failed"
ending_line program stop.Memory = program ++ codes ": out of memory"
ending_line program (stop.Changed pass) = program ++ codes ": input changed in pass " ++ decimal pass

-- ---- a refusal of a published file

-- as `refused at 1234`; the first number of the other form is where the frame begins
abbrev pub place_text : Place → List ℕ
place_text (place.Byte offset) = codes "refused at " ++ decimal offset
place_text (place.InPayload frame byte) = codes "refused in the blob at " ++ decimal frame ++ codes ", byte " ++ decimal byte ++ codes " of its payload"

-- as `: Checksum`, if the zlib data has a fault
abbrev pub detail_text : Option UnpackReason → List ℕ
detail_text (Some reason) = codes ": " ++ unpack_reason_name reason
detail_text None = codes ""

-- the line, without its end
abbrev pub packed_text : (program : List ℕ) → PackedRefusal → List ℕ
packed_text program r = program ++ codes ": " ++ place_text r.place ++ codes ": " ++ reason_text r.reason ++ detail_text r.detail

-- ---- an ending of the program

abbrev pub ending_of : CliFault → Ending
ending_of (fault.Line text) = ending.Words text
ending_of (fault.Box f) = ending.Box f
ending_of (fault.Choice f) = ending.Choice f
ending_of fault.Memory = ending.Stopped stop.Memory

abbrev pub ending_of_polygon : PolyError → Ending
ending_of_polygon (error.Refused f) = ending.Polygon f
ending_of_polygon error.Memory = ending.Stopped stop.Memory

abbrev pub ending_of_config : ConfigError → Ending
ending_of_config (config.Refused f) = ending.Config f
ending_of_config config.Memory = ending.Stopped stop.Memory

abbrev pub ending_status : Ending → ℕ
ending_status (ending.Words text) = 2
ending_status ending.NotText = 2
ending_status (ending.Box f) = 2
ending_status (ending.Choice f) = 2
ending_status (ending.Polygon f) = 2
ending_status (ending.Config f) = 2
ending_status ending.CannotOpen = 3
ending_status ending.IsPipe = 3
ending_status ending.OutExists = 3
ending_status ending.Closed = 141
ending_status (ending.Stopped s) = status_of s
ending_status (ending.RefusedPacked r) = 1

abbrev pub box_fault_name : BoxFault → List ℕ
box_fault_name box.Shape = codes "Shape"
box_fault_name box.Digit = codes "Digit"
box_fault_name box.Range = codes "Range"
box_fault_name box.LeftOverRight = codes "LeftOverRight"
box_fault_name box.BottomOverTop = codes "BottomOverTop"

-- an argument that is missing, or one too many, in the words of `clap`; or a value of Osmium's that isn't taken, with a tip
abbrev pub choice_error : ChoiceFault → List ℕ
choice_error NoRegion = codes "the following required arguments were not provided:\n  --box <WEST,SOUTH,EAST,NORTH>"
choice_error TwoRegions = codes "the argument '--box <WEST,SOUTH,EAST,NORTH>' cannot be used with '--polygon <FILE>'"
choice_error NoOutput = codes "the following required arguments were not provided:\n  <OUT>"
choice_error TwoOutputs = codes "the argument '--output <OUT>' cannot be used with '[OUT]'"
choice_error OtherFormat = codes "the only format of IN and OUT is 'pbf'\n\n  tip: leave it out: IN and OUT are PBF files, whatever their names are"
choice_error OtherStrategy = codes "the strategies are 'complete_ways' and 'smart'\n\n  tip: leave it out: ways are always complete"
choice_error TypesAlone = codes "the argument '--types <LIST>' cannot be used without '--strategy smart'"
choice_error ConfigAndRegion = codes "the argument '--config <FILE>' cannot be used with '--box <WEST,SOUTH,EAST,NORTH>' or '--polygon <FILE>'"
choice_error ConfigAndOutput = codes "the argument '--config <FILE>' cannot be used with '[OUT]'\n\n  tip: leave it out: the configuration names the files that are written"
choice_error ConfigAndSmart = codes "the argument '--config <FILE>' cannot be used with '--strategy smart'\n\n  tip: a run makes one smart extract: start a run for each area"
choice_error DirectoryAlone = codes "the argument '--directory <FOLDER>' cannot be used without '--config <FILE>'"

abbrev pub choice_usage : ChoiceFault → List ℕ
choice_usage NoRegion = codes "extract [OPTIONS] <--box=W,S,E,N|--polygon=FILE> <IN> <OUT>"
choice_usage TwoRegions = codes "extract [OPTIONS] <--box=W,S,E,N|--polygon=FILE> <IN> <OUT>"
choice_usage NoOutput = codes "<COMMAND> [OPTIONS] <IN> <OUT>"
choice_usage TwoOutputs = codes "<COMMAND> [OPTIONS] <IN> <OUT>"
choice_usage OtherFormat = codes "<COMMAND> [OPTIONS] <IN> <OUT>"
choice_usage OtherStrategy = codes "extract [OPTIONS] <--box=W,S,E,N|--polygon=FILE> <IN> <OUT>"
choice_usage TypesAlone = codes "extract [OPTIONS] <--box=W,S,E,N|--polygon=FILE> <IN> <OUT>"
choice_usage ConfigAndRegion = codes "extract [OPTIONS] --config=FILE <IN>"
choice_usage ConfigAndOutput = codes "extract [OPTIONS] --config=FILE <IN>"
choice_usage ConfigAndSmart = codes "extract [OPTIONS] --config=FILE <IN>"
choice_usage DirectoryAlone = codes "extract [OPTIONS] --config=FILE <IN>"

abbrev pub choice_text : (program : List ℕ) → ChoiceFault → List ℕ
choice_text program f = codes "error: " ++ choice_error f ++ codes "\n\nUsage: " ++ program ++ codes " " ++ choice_usage f ++ codes "\n\nFor more information, try '--help'.\n"

-- the number and the name of what is wrong with the file of a polygon
abbrev pub poly_reason_text : PolyReason → List ℕ
poly_reason_text poly.Ended = codes "1 Ended"
poly_reason_text poly.Number = codes "2 Number"
poly_reason_text poly.Range = codes "3 Range"
poly_reason_text poly.Short = codes "4 Short"
poly_reason_text poly.Empty = codes "5 Empty"
poly_reason_text poly.Rest = codes "6 Rest"
poly_reason_text poly.Json = codes "7 Json"
poly_reason_text poly.Shape = codes "8 Shape"
poly_reason_text poly.Open = codes "9 Open"
poly_reason_text poly.Long = codes "10 Long"
poly_reason_text poly.Name = codes "11 Name"

abbrev pub line_text : (line column : ℕ) → List ℕ
line_text line column = codes "line " ++ decimal line ++ codes ", column " ++ decimal column ++ codes ": "

abbrev pub ring_text : (ring position : ℕ) → List ℕ
ring_text ring position = codes "ring " ++ decimal ring ++ codes ", position " ++ decimal position ++ codes ": "

abbrev pub poly_place_text : PolyPlace → List ℕ
poly_place_text (Line line column) = line_text line column
poly_place_text (Ring ring position) = ring_text ring position
poly_place_text Text = codes ""

abbrev pub polygon_text : (program place reason : List ℕ) → List ℕ
polygon_text program place reason = program ++ codes ": polygon: " ++ place ++ reason ++ codes "\n"

-- ---- a configuration

-- as `11 BadBox`
abbrev pub config_reason_name : ConfigReason → List ℕ
config_reason_name wrong.Json = codes "1 Json"
config_reason_name wrong.Shape = codes "2 Shape"
config_reason_name wrong.Unknown = codes "3 Unknown"
config_reason_name wrong.Repeated = codes "4 Repeated"
config_reason_name wrong.Missing = codes "5 Missing"
config_reason_name wrong.Empty = codes "6 Empty"
config_reason_name wrong.FileName = codes "7 FileName"
config_reason_name wrong.Format = codes "8 Format"
config_reason_name wrong.FileType = codes "9 FileType"
config_reason_name wrong.Area = codes "10 Area"
config_reason_name (wrong.BadBox f) = codes "11 BadBox"
config_reason_name (wrong.BadPolygon f) = codes "12 BadPolygon"
config_reason_name wrong.SameOutput = codes "13 SameOutput"

abbrev pub in_brackets : List ℕ → List ℕ
in_brackets text = codes "(" ++ text ++ codes ")"

-- what is wrong with a box or with polygons, as `(Range)` or `(ring 1, position 3: 10 Long)`
abbrev pub config_reason_detail : ConfigReason → List ℕ
config_reason_detail (wrong.BadBox f) = in_brackets (box_fault_name f)
config_reason_detail (wrong.BadPolygon f) = in_brackets (poly_place_text f.place ++ poly_reason_text f.reason)
config_reason_detail _ = codes ""

-- the number of an extract, unless the fault is in none
abbrev pub extract_number_text : (extract : ℕ) → List ℕ
extract_number_text extract = if extract == 0 then codes "" else codes "extract " ++ decimal extract ++ codes ": "

-- the name of a member, if it can be printed: a configuration may have any
abbrev pub printable_name : List ℕ → List ℕ
printable_name name = if list_all is_ascii_graphic name then name else codes "?"

-- unless the fault is in the whole extract or file
abbrev pub member_name_text : (name : List ℕ) → List ℕ
member_name_text [] = codes ""
member_name_text (byte ∷ more) = printable_name (byte ∷ more) ++ codes ": "

abbrev pub config_place_text : ConfigFault → List ℕ
config_place_text f = extract_number_text f.extract ++ member_name_text (string_bytes f.member)

abbrev pub config_text : (program place name detail : List ℕ) → List ℕ
config_text program place name detail = program ++ codes ": config: " ++ place ++ name ++ detail ++ codes "\n"

-- what `clap` would say of a word that isn't UTF-8
abbrev pub not_text : (program : List ℕ) → List ℕ
not_text program = codes "error: invalid UTF-8 was detected in one or more arguments\n\nUsage: " ++ program ++ codes " <COMMAND>\n\nFor more information, try '--help'.\n"

-- all that a program writes, line ends included
abbrev pub message_of : (program : List ℕ) → Ending → List ℕ
message_of program (ending.Words text) = string_bytes text
message_of program ending.NotText = not_text program
message_of program (ending.Box f) = program ++ codes ": box: " ++ box_fault_name f ++ codes "\n"
message_of program (ending.Choice f) = choice_text program f
message_of program (ending.Polygon f) = polygon_text program (poly_place_text f.place) (poly_reason_text f.reason)
message_of program (ending.Config f) = config_text program (config_place_text f) (config_reason_name f.reason) (config_reason_detail f.reason)
message_of program ending.CannotOpen = program ++ codes ": cannot open\n"
message_of program ending.IsPipe = program ++ codes ": IN must be a file, not a pipe\n"
message_of program ending.OutExists = program ++ codes ": OUT exists\n"
message_of program ending.Closed = codes ""
message_of program (ending.Stopped s) = ending_line program s ++ codes "\n"
message_of program (ending.RefusedPacked r) = packed_text program r ++ codes "\n"

-- ---- the programs

abbrev pub program_name : Program → List ℕ
program_name program.Pbfcut = codes "pbfcut"
program_name program.Pbfcutz = codes "pbfcutz"
