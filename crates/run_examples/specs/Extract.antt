-- One run in full. On the disk is one file, in.osm.pbf, which has three nodes, and typed is
--
--     pbfcut extract --box=0,0,1,1 in.osm.pbf out.osm.pbf
--
-- Here is what that means, each thing that happens then, and what is on the disk afterwards.
-- `three_nodes`, `box` and `two_nodes` are spelled in pbf_examples, byte by byte: three nodes, of
-- which one lies south of the equator, a box of one degree north and east of the equator and the
-- prime meridian, and the file of the other two.
use Rattle.std.specs.Prelude.{◌≡◌, ℕ, false, List, [], ◌∷◌, map, take, Option, Some, None, Ok, codes}
use Rattle.clap.specs.Words.{Row, Text, subcommand_of}
use Rattle.osm_area.specs.Area.{box_area}
use Rattle.osm_box.specs.Degrees.{box_of_text}
use Rattle.osm_ways.specs.Selection.{complete_ways}
use Rattle.pbf_block.specs.declared.counts.Counts.{Counts}
use Rattle.pbf_examples.specs.Extracts.{two_nodes}
use Rattle.pbf_examples.specs.Frames.{three_nodes}
use Rattle.pbf_examples.specs.Reading.{◌cut_by◌gives◌, box}
use Rattle.pbfcut.specs.Theorem.{IsExtraction}
use Rattle.pbfcut_cli.specs.Joined.{normalized}
use Rattle.pbfcut_cli.specs.Words.{AreTaken, program_app}
use Rattle.pbfcut_cli.specs.declared.programs.Program.TheVariants.{Pbfcut}
use Rattle.pbfcut_cli.specs.declared.words.Command.{Command}
use Rattle.pbfcut_cli.specs.declared.words.Command.TheVariants as command
use Rattle.pbfcut_cli.specs.declared.words.Region.TheVariants as region
use Rattle.pbfcut_cli.specs.declared.words.Strategy.TheVariants.{CompleteWays}
use Rattle.pbfcut_program.specs.Events.{Event, looked, made, opened, printed, read, seeded, wrote}
use Rattle.pbfcut_program.specs.Files.{AllowsAll, Disk, after}
use Rattle.pbfcut_program.specs.Program.{IsMeant, IsRun}
use Rattle.pbfcut_program.specs.Lines.{counts_text}
use Rattle.pbfcut_program.specs.Settling.{RunSettles}
use Rattle.pbfcut_program.specs.declared.host.Screen.TheVariants.{Output}
use Rattle.run_examples.specs.Lines.{all_of, files, given, none_of, off, only, whole}

-- ---- what is typed

abbrev pub input : Text
input = codes "in.osm.pbf"

abbrev pub output : Text
output = codes "out.osm.pbf"

abbrev pub typed : List Text
typed = codes "extract" ∷ codes "--box=0,0,1,1" ∷ input ∷ output ∷ []

-- the arguments of `extract` that have a value: those that were typed, and then its flags
abbrev pub rows : List Row
rows =
    given "box" "0,0,1,1" ∷ given "IN" "in.osm.pbf" ∷ given "OUT" "out.osm.pbf"
    ∷ off "progress" ∷ off "digests" ∷ off "parents" ∷ off "set-bounds" ∷ off "no-progress"
    ∷ off "fsync" ∷ []

-- cut the box out of IN into OUT, with complete ways
abbrev pub meaning : Command
meaning = command.Extract (region.Box box) CompleteWays (files input output)

pub record Typed : Type 0 where
  -- `clap` takes it, as `extract` with these values
  pub taken : AreTaken Pbfcut (normalized typed)
  pub values : subcommand_of (program_app Pbfcut) (normalized typed) ≡ Some (codes "extract", rows)
  -- the box counts in degrees
  pub degrees : box_of_text (codes "0,0,1,1") ≡ Ok box
  -- and this is the command that the program has to do
  pub meant : IsMeant Pbfcut typed meaning

-- ---- what happens

-- in this order. The key is drawn at random, so the tables are about each
abbrev pub happens : (key : ℕ) → List Event
happens key =
    looked output false false  -- there is no OUT
    ∷ opened input 1 (Some three_nodes)  -- IN is opened for three passes
    ∷ opened input 2 (Some three_nodes)
    ∷ opened input 3 (Some three_nodes)
    ∷ seeded (Some key)
    ∷ made output  -- OUT is there now, and empty
    ∷ read (all_of three_nodes)  -- the first pass
    ∷ read (none_of three_nodes)  -- the second is left out, since nodes come before all ways
    ∷ read (all_of three_nodes)  -- the third
    ∷ wrote (whole output two_nodes)
    ∷ printed Output (codes "nodes 2 ways 0 relations 0\n") None
    ∷ []

abbrev pub counts : Counts
counts = record { nodes = 2; ways = 0; relations = 0 }

pub record Happens : Type 0 where
  -- the bytes that OUT took are those that have to be written
  pub cut : three_nodes cut_by box gives two_nodes
  -- they have no fault, and mean the nodes in the box; of these there are so many
  pub extraction : IsExtraction complete_ways (box_area box) three_nodes counts two_nodes
  pub line : counts_text counts ≡ codes "nodes 2 ways 0 relations 0\n"
  -- so this is a run of the program, and its exit status is 0
  pub run : (key : ℕ) → IsRun Pbfcut typed (happens key) 0
  -- and can't be another one
  pub status : (key status : ℕ) → IsRun Pbfcut typed (happens key) status → status ≡ 0
  -- it did to files what a run may do: OUT was made, and kept, and nothing else was touched
  pub settles : (key : ℕ) → RunSettles Pbfcut typed (Some []) (Some (happens key))

-- ---- what is on the disk

abbrev pub disk : Disk
disk = only input three_nodes

-- what OUT has after so many of the events
abbrev pub output_after : (key count : ℕ) → Option (List ℕ)
output_after key count = after (take count (happens key)) disk output

pub record OnDisk : Type 0 where
  -- all this can happen on such a disk
  pub possible : (key : ℕ) → AllowsAll disk (happens key)
  -- OUT isn't there, then it is made, and then it is written
  pub moments :
      (key : ℕ)
      → map (output_after key) (0 ∷ 5 ∷ 6 ∷ 9 ∷ 10 ∷ 11 ∷ [])
      ≡ None ∷ None ∷ Some [] ∷ Some [] ∷ Some two_nodes ∷ Some two_nodes ∷ []
  -- at last OUT has the extract, IN has what it had, and there is no other file
  pub output_has : (key : ℕ) → after (happens key) disk output ≡ Some two_nodes
  pub input_has : (key : ℕ) → after (happens key) disk input ≡ Some three_nodes
  pub no_other :
      (key : ℕ) (name : Text) → (name ≡ input → ⊥) → (name ≡ output → ⊥)
      → after (happens key) disk name ≡ None
