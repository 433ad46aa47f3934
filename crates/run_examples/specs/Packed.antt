-- The same extract by `pbfcutz`, which reads published files too, and with `--raw` writes as
-- `pbfcut` does. On the disk is one file, in.osm.pbf, which has three nodes, and typed is
--
--     pbfcutz extract --raw --box=0,0,1,1 in.osm.pbf out.osm.pbf
--
-- OUT is written by another name, as a part, and gets its own when it is whole.
use Rattle.std.specs.Prelude.{◌≡◌, ℕ, false, List, [], ◌∷◌, map, take, Option, Some, None, codes}
use Rattle.clap.specs.Words.{Row, Text, subcommand_of}
use Rattle.pbf_examples.specs.Extracts.{two_nodes}
use Rattle.pbf_examples.specs.Frames.{three_nodes}
use Rattle.pbf_examples.specs.Reading.{box}
use Rattle.pbf_unpack.specs.Unpacked.{unpacked}
use Rattle.pbfcut_cli.specs.Joined.{normalized}
use Rattle.pbfcut_cli.specs.Words.{AreTaken, program_app}
use Rattle.pbfcut_cli.specs.declared.programs.Program.TheVariants.{Pbfcutz}
use Rattle.pbfcut_cli.specs.declared.words.Command.{Command}
use Rattle.pbfcut_cli.specs.declared.words.Command.TheVariants as command
use Rattle.pbfcut_cli.specs.declared.words.Region.TheVariants as region
use Rattle.pbfcut_cli.specs.declared.words.Strategy.TheVariants.{CompleteWays}
use Rattle.pbfcut_program.specs.Events.{Event, linked, looked, made, opened, printed, read, removed, seeded, wrote}
use Rattle.pbfcut_program.specs.Files.{AllowsAll, after}
use Rattle.pbfcut_program.specs.Program.{IsMeant, IsRun}
use Rattle.pbfcut_program.specs.Settling.{RunSettles}
use Rattle.pbfcut_program.specs.declared.host.Screen.TheVariants.{Output}
use Rattle.run_examples.specs.Extract.{disk, input, output}
use Rattle.run_examples.specs.Lines.{all_of, given, none_of, off, raw_files, whole}

-- ---- what is typed

abbrev pub typed_raw : List Text
typed_raw = codes "extract" ∷ codes "--raw" ∷ codes "--box=0,0,1,1" ∷ input ∷ output ∷ []

abbrev pub rows_raw : List Row
rows_raw =
    given "raw" "true" ∷ given "box" "0,0,1,1" ∷ given "IN" "in.osm.pbf"
    ∷ given "OUT" "out.osm.pbf" ∷ off "progress" ∷ off "digests" ∷ off "parents"
    ∷ off "set-bounds" ∷ off "overwrite" ∷ off "no-progress" ∷ off "fsync" ∷ []

abbrev pub meaning_raw : Command
meaning_raw = command.Extract (region.Box box) CompleteWays (raw_files input output)

pub record TypedRaw : Type 0 where
  pub taken : AreTaken Pbfcutz (normalized typed_raw)
  pub values :
      subcommand_of (program_app Pbfcutz) (normalized typed_raw) ≡ Some (codes "extract", rows_raw)
  pub meant : IsMeant Pbfcutz typed_raw meaning_raw

-- ---- what happens

-- the name of the part: OUT's, the number of the process, and how many parts it made before
abbrev pub part : Text
part = codes "out.osm.pbf.17251.0.part"

-- the key is that of the hash by which the passes are compared
abbrev pub parts : (key : ℕ) → List Event
parts key =
    looked output false false
    ∷ opened input 1 (Some three_nodes)
    ∷ opened input 2 (Some three_nodes)
    ∷ opened input 3 (Some three_nodes)
    ∷ seeded (Some key)
    ∷ made part
    ∷ read (all_of three_nodes)
    ∷ read (none_of three_nodes)
    ∷ read (all_of three_nodes)
    ∷ wrote (whole part two_nodes)
    ∷ linked part output  -- OUT gets its name, and the file has two now
    ∷ removed part  -- and loses the other
    ∷ printed Output (codes "nodes 2 ways 0 relations 0\n") None
    ∷ []

pub record PartRun : Type 0 where
  -- the blobs of IN are raw, so it means itself
  pub unpacked_same : unpacked three_nodes ≡ three_nodes
  pub run : (key : ℕ) → IsRun Pbfcutz typed_raw (parts key) 0
  pub settles : (key : ℕ) → RunSettles Pbfcutz typed_raw (Some []) (Some (parts key))

-- ---- what is on the disk

-- what OUT has after so many of the events: at no time a part of its bytes
abbrev pub named_after : (key count : ℕ) → Option (List ℕ)
named_after key count = after (take count (parts key)) disk output

pub record PartOnDisk : Type 0 where
  pub possible : (key : ℕ) → AllowsAll disk (parts key)
  pub moments :
      (key : ℕ)
      → map (named_after key) (0 ∷ 6 ∷ 10 ∷ 11 ∷ 13 ∷ [])
      ≡ None ∷ None ∷ None ∷ Some two_nodes ∷ Some two_nodes ∷ []
  pub output_has : (key : ℕ) → after (parts key) disk output ≡ Some two_nodes
  pub input_has : (key : ℕ) → after (parts key) disk input ≡ Some three_nodes
  -- so the part is gone, too
  pub no_other :
      (key : ℕ) (name : Text) → (name ≡ input → ⊥) → (name ≡ output → ⊥)
      → after (parts key) disk name ≡ None
