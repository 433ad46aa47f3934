-- A run that fails. IN lacks its last byte, and typed is the command line of the chapter Extract:
--
--     pbfcut extract --box=0,0,1,1 in.osm.pbf out.osm.pbf
--
-- IN is refused, and nothing is written. `pbfcut` leaves what it made, so there is an empty OUT
-- then. (`pbfcutz` removes it: the chapter Dropped.)
use Rattle.std.specs.Prelude.{◌≡◌, ℕ, false, List, [], ◌∷◌, ◌++◌, take, Some, codes}
use Rattle.pbf_examples.specs.Frames.{three_nodes}
use Rattle.pbf_examples.specs.Reading.{◌refused_at◌for◌}
use Rattle.pbf_wire.specs.declared.fault.Reason.TheVariants.{BlobCut}
use Rattle.pbfcut_cli.specs.declared.programs.Program.TheVariants.{Pbfcut}
use Rattle.pbfcut_program.specs.Events.{Event, advised, looked, made, opened, read, seeded, told, wrote}
use Rattle.pbfcut_program.specs.Files.{AllowsAll, Disk, after}
use Rattle.pbfcut_program.specs.Program.{IsRun}
use Rattle.pbfcut_program.specs.Settling.{RunSettles}
use Rattle.run_examples.specs.Extract.{input, output, typed}
use Rattle.run_examples.specs.Lines.{all_of, empty, none_of, only}

-- ---- what happens

-- 58 of 59 bytes: the blob that begins at 34 isn't whole
abbrev pub short_file : List ℕ
short_file = take 58 three_nodes

abbrev pub fails : (key : ℕ) → List Event
fails key =
    looked output false false
    ∷ opened input 1 (Some short_file)
    ∷ opened input 2 (Some short_file)
    ∷ opened input 3 (Some short_file)
    ∷ seeded (Some key)
    ∷ made output
    ∷ read (all_of short_file)  -- the first pass comes to the end of IN
    ∷ read (none_of short_file)  -- and the others aren't made
    ∷ read (none_of short_file)
    ∷ wrote (empty output)
    ∷ []

-- and then it is said why, with a line more on what to do next
abbrev pub refused : (key : ℕ) → List Event
refused key = fails key ++ told (codes "pbfcut: refused at 34: 13 BlobCut\n") ∷ advised ∷ []

pub record RefusedRun : Type 0 where
  -- this is the file's first fault
  pub fault : short_file refused_at 34 for BlobCut
  -- so this is a run of the program, and its exit status is 1
  pub run : (key : ℕ) → IsRun Pbfcut typed (refused key) 1
  -- OUT was made, and is left as it is
  pub settles : (key : ℕ) → RunSettles Pbfcut typed (Some []) (Some (refused key))

-- ---- what is on the disk

abbrev pub short_disk : Disk
short_disk = only input short_file

pub record EmptyOut : Type 0 where
  pub possible : (key : ℕ) → AllowsAll short_disk (refused key)
  pub output_has : (key : ℕ) → after (refused key) short_disk output ≡ Some []
  pub input_has : (key : ℕ) → after (refused key) short_disk input ≡ Some short_file
