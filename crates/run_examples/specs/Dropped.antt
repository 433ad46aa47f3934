-- The run of `pbfcutz` that fails. IN lacks its last byte, and typed is the command line of the
-- chapter Packed:
--
--     pbfcutz extract --raw --box=0,0,1,1 in.osm.pbf out.osm.pbf
--
-- IN is refused, the part is removed, and the disk is as it was.
use Rattle.std.specs.Prelude.{◌≡◌, ℕ, false, List, [], ◌∷◌, ◌++◌, Some, codes}
use Rattle.clap.specs.Words.{Text}
use Rattle.pbf_unpack.specs.Unpacked.{unpacked}
use Rattle.pbfcut_cli.specs.declared.programs.Program.TheVariants.{Pbfcutz}
use Rattle.pbfcut_program.specs.Events.{Event, advised, looked, made, opened, read, removed, seeded, told, wrote}
use Rattle.pbfcut_program.specs.Files.{AllowsAll, after}
use Rattle.pbfcut_program.specs.Program.{IsRun}
use Rattle.pbfcut_program.specs.Settling.{RunSettles}
use Rattle.run_examples.specs.Extract.{input, output}
use Rattle.run_examples.specs.Lines.{all_of, empty, none_of}
use Rattle.run_examples.specs.Packed.{part, typed_raw}
use Rattle.run_examples.specs.Refused.{short_disk, short_file}

abbrev pub drops : (key : ℕ) → List Event
drops key =
    looked output false false
    ∷ opened input 1 (Some short_file)
    ∷ opened input 2 (Some short_file)
    ∷ opened input 3 (Some short_file)
    ∷ seeded (Some key)
    ∷ made part
    ∷ read (all_of short_file)
    ∷ read (none_of short_file)
    ∷ read (none_of short_file)
    ∷ wrote (empty part)
    ∷ removed part
    ∷ []

abbrev pub dropped : (key : ℕ) → List Event
dropped key = drops key ++ told (codes "pbfcutz: refused at 34: 13 BlobCut\n") ∷ advised ∷ []

pub record DroppedRun : Type 0 where
  -- the blobs of IN are raw, so it means itself
  pub unpacked_same : unpacked short_file ≡ short_file
  pub run : (key : ℕ) → IsRun Pbfcutz typed_raw (dropped key) 1
  pub settles : (key : ℕ) → RunSettles Pbfcutz typed_raw (Some []) (Some (dropped key))

pub record AsBefore : Type 0 where
  pub possible : (key : ℕ) → AllowsAll short_disk (dropped key)
  -- each name has what it had, or no file
  pub same : (key : ℕ) (name : Text) → after (dropped key) short_disk name ≡ short_disk name
