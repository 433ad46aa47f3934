-- What a run of the program is: its words, what happened, and its exit status. To be read from the end upwards.
use Rattle.std.specs.Prelude.{◌≡◌, ◌⊎◌, ℕ, ◌+◌, List, [], ◌∷◌, ◌++◌, length, map, Bool, true, false, ◌||◌, ◌&&◌, ◌==◌, not, if◌then◌else◌, Option, Some, None, codes}
use Rattle.std.specs.Str.{bytes_eq}
use Rattle.std.specs.String.{string_bytes}
use Rattle.clap.specs.Words.{Text}
use Rattle.osm_area.specs.Area.{AreaSpec, box_area}
use Rattle.osm_ways.specs.Selection as selection
use Rattle.osm_ways.specs.Whole.{is_wanted_by}
use Rattle.pbf_block.specs.declared.counts.Counts.{Counts}
use Rattle.pbf_frame.specs.Frames.{FrameSpec}
use Rattle.pbf_frame.specs.Verdict.{Says, judged_known}
use Rattle.pbf_frame.specs.declared.stop.Stop.TheVariants as stop
use Rattle.pbf_published.specs.Showing.{TellsInfo}
use Rattle.pbfcut.specs.Blobs as blobs
use Rattle.pbfcut.specs.Receipts.{judge_by}
use Rattle.pbfcut.specs.Summary.{judged_headings}
use Rattle.pbfcut_cli.specs.Endings.{message_of, ending_status, program_name}
use Rattle.pbfcut_cli.specs.Joined.{normalized}
use Rattle.pbfcut_cli.specs.Words.{IsCommandOf, IsFaultOf}
use Rattle.pbfcut_cli.specs.declared.endings.Ending.{Ending}
use Rattle.pbfcut_cli.specs.declared.endings.Ending.TheVariants as ending
use Rattle.pbfcut_cli.specs.declared.programs.Program.{Program}
use Rattle.pbfcut_cli.specs.declared.programs.Program.TheVariants.{Pbfcut, Pbfcutz}
use Rattle.pbfcut_cli.specs.declared.words.CliFault.TheVariants as fault
use Rattle.pbfcut_cli.specs.declared.words.Command.{Command}
use Rattle.pbfcut_cli.specs.declared.words.Command.TheVariants.{Blobs, Info, Show, Check, Convert, Pack, Unpack, Extract, ExtractEach, Help}
use Rattle.pbfcut_cli.specs.declared.words.Files.{Files}
use Rattle.pbfcut_cli.specs.declared.words.Region.{Region}
use Rattle.pbfcut_cli.specs.declared.words.Region.TheVariants as region
use Rattle.pbfcut_cli.specs.declared.words.Strategy.{Strategy}
use Rattle.pbfcut_cli.specs.declared.words.Strategy.TheVariants as strategy
use Rattle.pbfcut_program.specs.declared.host.Screen.{Screen}
use Rattle.pbfcut_program.specs.declared.host.Screen.TheVariants.{Output, Error}
use Rattle.pbfcut_program.specs.Configured.{MeansFile}
use Rattle.pbfcut_program.specs.Events.{Event, looked, opened, openings, seeded, screened, read, wrote, printed, told, advised, Reading, Writing}
use Rattle.pbfcut_program.specs.Fails.{Each, FailsFor, Judging, Quiet, judging, judging_for, listing, printing}
use Rattle.pbfcut_program.specs.Files.{IsKept, IsMade}
use Rattle.pbfcut_program.specs.Leaving.{LeavesFor}
use Rattle.pbfcut_program.specs.Lines.{check_lines, counts_text, digest_if_asked, done_lines, prints}
use Rattle.pbfcut_program.specs.Manner.{Manner, check_of, hashes_meaning, input_form, manner, meant_known, of_output, once_check, output_form, to_raw}
use Rattle.pbfcut_program.specs.Readings.{IsWork}
use Rattle.pbfcut_program.specs.SeveralWrites.{LeavesEach, RunsExtractEach, judging_each, strategy_with}
use Rattle.pbfcut.specs.Tasks.{Task, checking, listing_frames, showing, converting, copying, extracting, passes_of}
use Rattle.pbfcut_program.specs.Tasks.{GivesRaw}
use Rattle.pbfcut_program.specs.Telling.{IsSaid}

-- ---- what a command does that ends well

-- `check`: one pass was made, and the counts were printed; with `--digests` also the digests
pub record RunsCheck (m : Manner) (input : List ℕ) (events : List Event) : Type 0 where
  pub has : Option (List ℕ)
  pub first : Reading
  pub counts : Counts
  pub digest : List ℕ
  pub raw : Option (List ℕ)
  pub happened : events ≡ opened input 1 has ∷ read first ∷ prints Output (counts_text counts ∷ check_lines m.digests digest raw input)
  pub work : IsWork m (once_check m.digests) checking (has ∷ []) (first ∷ []) [] counts digest raw

-- pbfcutz draws a key, even if it draws nothing else
abbrev pub draws : Program → (key : ℕ) → List Event
draws Pbfcut key = []
draws Pbfcutz key = seeded (Some key) ∷ []

-- `show`: two passes were made, and all of the text went to standard output
pub record RunsShow (m : Manner) (dates : Bool) (input : List ℕ) (events : List Event) : Type 0 where
  pub has : List (Option (List ℕ))
  pub key : ℕ
  pub rs : List Reading
  pub out : Writing
  pub counts : Counts
  pub digest : List ℕ
  pub raw : Option (List ℕ)
  pub happened : events ≡ openings input 1 has ++ draws m.program key ++ screened true ∷ map read rs ++ wrote out ∷ []
  pub passes : length has ≡ 2
  pub whole : out.fault ≡ None
  pub work : IsWork (to_raw m) (check_of m key) (showing dates) has rs out.bytes counts digest raw

-- what went out are the lines of the frames of the raw file that IN means, as far as the host reports what it has
abbrev pub IsListing : Program → Option (List ℕ) → List ℕ → Type 0
IsListing program has written = (frames : List FrameSpec) × Says (judged_known false 0 (meant_known (input_form program) has)) (frames, None) × (written ≡ blobs.lines frames)

-- `blobs`, and `info`: one pass was made, and all of the text went to standard output, which is the right one for what IN has
pub record RunsListing (is_text : Option (List ℕ) → List ℕ → Type 0) (input : List ℕ) (events : List Event) : Type 0 where
  pub has : Option (List ℕ)
  pub first : Reading
  pub out : Writing
  pub happened : events ≡ opened input 1 has ∷ screened true ∷ read first ∷ wrote out ∷ []
  pub whole : out.fault ≡ None
  pub lines : is_text has out.bytes

-- OUT is standard output, of pbfcutz
abbrev pub is_screen : Program → List ℕ → Bool
is_screen Pbfcut output = false
is_screen Pbfcutz output = bytes_eq output (codes "-") || bytes_eq output (codes "/dev/stdout")

-- it was looked for, and not found, unless it may be replaced
abbrev pub looks : (is_screen : Bool) → Files → List Event
looks true files = []
looks false files = looked files.output.now files.overwrite false ∷ []

-- what happens before the passes
abbrev pub begun : (is_screen : Bool) → Files → (has : List (Option (List ℕ))) → (key : ℕ) → (makes : List Event) → List Event
begun is_screen files has key makes = looks is_screen files ++ openings files.input.now 1 has ++ seeded (Some key) ∷ makes

-- where counts and digests go
abbrev pub screen_of : (is_screen : Bool) → Screen
screen_of true = Error
screen_of false = Output

-- nothing lies in what was cut out
abbrev pub is_empty : Counts → Bool
is_empty counts = counts.nodes == 0 && (counts.ways == 0 && counts.relations == 0)

-- a command that writes: OUT was not there, IN was opened for each pass, a key was drawn, OUT was made, it was kept, all that it took went out, and then these
-- counts were printed, with `--digests` also the digests
pub record WritesCounts (m : Manner) (task : Task) (files : Files) (counts : Counts) (events : List Event) : Type 0 where
  pub has : List (Option (List ℕ))
  pub rs : List Reading
  pub out : Writing
  pub key : ℕ
  pub digest : List ℕ
  pub raw : Option (List ℕ)
  pub known : Option (List ℕ)
  pub meaning : Option (List ℕ)
  pub makes : List Event
  pub keeps : List Event
  pub happened : events ≡ begun (is_screen m.program files.output.now) files has key makes ++ map read rs ++ wrote out ∷ keeps ++ prints (screen_of (is_screen m.program files.output.now))
      (counts_text counts ∷ done_lines known meaning digest raw files.input.now files.output.now)
  pub passes : length has ≡ passes_of task
  pub made : IsMade m.program (is_screen m.program files.output.now) files.output.now out.name makes
  pub named : IsKept m.program files.overwrite files.output.now out.name keeps
  pub kept : out.kept ≡ true
  pub whole : out.fault ≡ None
  pub hashed : known ≡ digest_if_asked m.digests out.bytes
  pub meaning_hashed : meaning ≡ digest_if_asked (hashes_meaning (output_form m.packs m.program) m.digests) (of_output m out.bytes)
  pub work : IsWork m (check_of m key) task has rs out.bytes counts digest raw

abbrev pub Writes : Manner → Task → Files → List Event → Type 0
Writes m task files events = (counts : Counts) × WritesCounts m task files counts events

-- what is cut out: a box, or the polygons of a text that was read
abbrev pub MeansArea : Region → List Event → AreaSpec → Type 0
MeansArea (region.Box box) events area = (events ≡ []) × (area ≡ box_area box)
MeansArea (region.Polygon path) events area = MeansFile path.now events area

-- what is kept besides what lies in it
abbrev pub strategy_of : Strategy → selection.Strategy
strategy_of strategy.CompleteWays = selection.complete_ways
strategy_of strategy.AllParents = selection.all_parents
strategy_of (strategy.Smart types) = selection.smart (is_wanted_by types.now)

-- on a terminal it is said that nothing lies in it
abbrev pub advice : Counts → List Event
advice counts = if is_empty counts then advised ∷ [] else []

pub record RunsExtract (m : Manner) (cut : Region) (by : Strategy) (files : Files) (events : List Event) : Type 0 where
  pub area : AreaSpec
  pub before : List Event
  pub after : List Event
  pub counts : Counts
  pub happened : events ≡ before ++ after ++ advice counts
  pub means : MeansArea cut before area
  pub writes : WritesCounts m (extracting (strategy_of by) area) files counts after

-- the digests of what a command reads are printed
abbrev pub digests_of : Command → Bool
digests_of (Check input progress digests) = digests
digests_of (Convert files) = files.digests
digests_of (Pack files) = files.digests
digests_of (Unpack files) = files.digests
digests_of (Extract region by files) = files.digests
digests_of (ExtractEach parents files) = files.digests
digests_of _ = false

-- OUT gets zlib blobs, if it is pbfcutz that writes it
abbrev pub packs_of : Command → Bool
packs_of (Convert files) = not files.raw
packs_of (Pack files) = true
packs_of (Extract region by files) = not files.raw
packs_of (ExtractEach parents files) = not files.raw
packs_of _ = false

abbrev pub manner_in : Program → Command → Manner
manner_in program command = manner program (packs_of command) (digests_of command)

-- `info` reads as pbfcutz does
abbrev pub Does : Manner → Command → List Event → Type 0
Does m (Help text) events = events ≡ printed Output (string_bytes text) None ∷ []
Does m (Blobs input) events = RunsListing (IsListing m.program) input.now events
Does m (Info input json) events = RunsListing (TellsInfo json) input.now events
Does m (Show input dates progress) events = RunsShow m dates input.now events
Does m (Check input progress digests) events = RunsCheck m input.now events
Does m (Convert files) events = Writes m converting files events
Does m (Pack files) events = Writes m copying files events
Does m (Unpack files) events = Writes m copying files events
Does m (Extract region by files) events = RunsExtract m region by files events
Does m (ExtractEach parents files) events = RunsExtractEach m (strategy_with parents) files events

-- ---- why a command fails

-- the extract that is to be written is a raw file
abbrev pub CutsRaw : Region → Strategy → List Event → List ℕ → Type 0
CutsRaw cut by events file = (area : AreaSpec) (before after : List Event)
    → events ≡ before ++ after → MeansArea cut before area → GivesRaw (extracting (strategy_of by) area) file

-- how an extract of this is judged
abbrev pub judging_cut : Region → Strategy → List Event → Judging
judging_cut cut by events = judging (judge_by (strategy_of by)) (CutsRaw cut by events)

abbrev pub judging_in : Command → List Event → Judging
judging_in (Help text) events = printing
judging_in (Blobs input) events = listing
judging_in (Info input json) events = judging judged_headings (λ file. ⊥)
judging_in (Show input dates progress) events = judging_for (showing dates)
judging_in (Check input progress digests) events = judging_for checking
judging_in (Convert files) events = judging_for converting
judging_in (Pack files) events = judging_for copying
judging_in (Unpack files) events = judging_for copying
judging_in (Extract region by files) events = judging_cut region by events
judging_in (ExtractEach parents files) events = judging_each (strategy_with parents) files events

-- `info` reads as pbfcutz does, and writes a text, as `show` does
abbrev pub manner_for : Manner → Command → Manner
manner_for m (Info input json) = manner Pbfcutz false m.digests
manner_for m (Show input dates progress) = to_raw m
manner_for m _ = m

-- nothing was written before it was known what is cut out; and then it is an extract of that
pub record LeavesCut (input : List ℕ) (m : Manner) (cut : Region) (by : Strategy) (events : List Event) : Type 0 where
  pub area : AreaSpec
  pub before : List Event
  pub after : List Event
  pub happened : events ≡ before ++ after
  pub means : MeansArea cut before area
  pub leaves : LeavesFor input m (extracting (strategy_of by) area) after

abbrev pub LeavesIn : Manner → Command → List Event → Type 0
LeavesIn m (Blobs input) events = LeavesFor input.now (to_raw m) listing_frames events
LeavesIn m (Show input dates progress) events = LeavesFor input.now (to_raw m) (showing dates) events
LeavesIn m (Convert files) events = LeavesFor files.input.now m converting events
LeavesIn m (Pack files) events = LeavesFor files.input.now m copying events
LeavesIn m (Unpack files) events = LeavesFor files.input.now m copying events
LeavesIn m (Extract region by files) events = Each Quiet events ⊎ LeavesCut files.input.now m region by events
LeavesIn m (ExtractEach parents files) events = Each Quiet events ⊎ LeavesEach m (strategy_with parents) files events
LeavesIn m _ events = Unit {0}

-- the path of IN
abbrev pub input_of : Command → List ℕ
input_of (Blobs input) = input.now
input_of (Info input json) = input.now
input_of (Show input dates progress) = input.now
input_of (Check input progress digests) = input.now
input_of (Convert files) = files.input.now
input_of (Pack files) = files.input.now
input_of (Unpack files) = files.input.now
input_of (Extract region by files) = files.input.now
input_of (ExtractEach parents files) = files.input.now
input_of (Help text) = []

abbrev pub FailsIn : Manner → Command → Ending → List Event → Type 0
FailsIn m command how events = FailsFor (input_of command) (manner_for m command) (judging_in command events) how events × LeavesIn m command events × IsSaid m.digests (Does m command) how events

-- ---- the whole run

-- the command that `clap` reads in the words, if it takes them; or help, if they request it
abbrev pub IsMeant : Program → List Text → Command → Type 0
IsMeant program words command = IsCommandOf program (normalized words) command

-- it did its work
abbrev pub IsDone : Program → List Text → List Event → Type 0
IsDone program words events = (command : Command) × IsMeant program words command × Does (manner_in program command) command events

-- it failed: for wrong words nothing had happened; and if memory was refused, nothing, or a command failed, for this or another cause
abbrev pub IsWhy : Program → List Text → Ending → List Event → Type 0
IsWhy program words (ending.Words text) events = IsFaultOf program (normalized words) (fault.Line text) × (events ≡ [])
IsWhy program words (ending.Box f) events = IsFaultOf program (normalized words) (fault.Box f) × (events ≡ [])
IsWhy program words (ending.Choice f) events = IsFaultOf program (normalized words) (fault.Choice f) × (events ≡ [])
IsWhy program words (ending.Stopped stop.Memory) events = (events ≡ [])
    ⊎ ((command : Command) × IsMeant program words command × (cause : Ending) × FailsIn (manner_in program command) command cause events)
IsWhy program words how events = (command : Command) × IsMeant program words command × FailsIn (manner_in program command) command how events

-- it failed, and its line was written: the exit status and the line are those of one ending
pub record IsFailed (program : Program) (words : List Text) (events : List Event) (status : ℕ) : Type 0 where
  pub how : Ending
  pub before : List Event
  pub happened : events ≡ before ++ told (message_of (program_name program) how) ∷ advised ∷ []
  pub status_is : status ≡ ending_status how
  pub why : IsWhy program words how before

abbrev pub IsRun : Program → List Text → List Event → ℕ → Type 0
IsRun program words events status = ((status ≡ 0) × IsDone program words events) ⊎ IsFailed program words events status
