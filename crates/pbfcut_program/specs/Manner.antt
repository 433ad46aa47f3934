-- How a program does a command, and what the bytes of IN and of OUT mean by that.
use Rattle.std.specs.Prelude.{◌≡◌, ℕ, List, Bool, true, false, Option, Some, None}
use Rattle.std.specs.Option.{option_map}
use Rattle.pbf_pass.specs.Hashing.{IsDigestOf, mark_by, raw_check}
use Rattle.pbf_pass.specs.declared.hashing.PassCheck.{PassCheck}
use Rattle.pbf_pass.specs.declared.hashing.PassCheck.TheVariants as check
use Rattle.pbf_unpack.specs.Unpacked.{unpacked}
use Rattle.pbfcut_cli.specs.declared.programs.Program.{Program}
use Rattle.pbfcut_cli.specs.declared.programs.Program.TheVariants.{Pbfcut, Pbfcutz}
use Rattle.pbfcut_program.specs.declared.engine.Engine.{Engine}

-- whether the bytes of a file are a raw file themselves, or one whose blobs may be zlib data
pub data Form : Type 0 where
  raw_file : Form
  packed_file : Form

-- the raw file that bytes mean
abbrev pub meant : Form → List ℕ → List ℕ
meant raw_file bytes = bytes
meant packed_file bytes = unpacked bytes

-- the same of what a device reports
abbrev pub meant_known : Form → Option (List ℕ) → Option (List ℕ)
meant_known raw_file known = known
meant_known packed_file known = option_map unpacked known

-- the program; whether digests are printed; and whether OUT gets zlib blobs if it is pbfcutz that writes it
pub record Manner : Type 0 where
  pub program : Program
  pub packs : Bool
  pub digests : Bool

abbrev pub manner : Program → (packs digests : Bool) → Manner
manner program packs digests = record { program = program; packs = packs; digests = digests }

abbrev pub manner_of : Engine → Manner
manner_of engine = manner engine.program engine.packs engine.digests

-- the same, with raw blobs in OUT
abbrev pub to_raw : Manner → Manner
to_raw m = manner m.program false m.digests

abbrev pub input_form : Program → Form
input_form Pbfcut = raw_file
input_form Pbfcutz = packed_file

abbrev pub output_form : (packs : Bool) → Program → Form
output_form false program = raw_file
output_form true Pbfcut = raw_file
output_form true Pbfcutz = packed_file

-- the raw file that the bytes of IN mean, and that which the bytes of OUT mean
abbrev pub of_input : Manner → List ℕ → List ℕ
of_input m bytes = meant (input_form m.program) bytes

abbrev pub of_output : Manner → List ℕ → List ℕ
of_output m bytes = meant (output_form m.packs m.program) bytes

-- whether the raw file that bytes mean has a digest of its own, if digests are printed
abbrev pub hashes_meaning : Form → (digests : Bool) → Bool
hashes_meaning raw_file digests = false
hashes_meaning packed_file digests = digests

-- what passes that have to read the same bytes are compared by: the digests that are printed; if none are, by pbfcutz the keyed hash of
-- the key that was drawn
abbrev pub check_by : (digests : Bool) → Program → (key : ℕ) → PassCheck
check_by true program key = check.Sha256
check_by false Pbfcut key = check.Sha256
check_by false Pbfcutz key = check.Keyed key

abbrev pub check_of : Manner → (key : ℕ) → PassCheck
check_of m key = check_by m.digests m.program key

abbrev pub check_in : Engine → (key : ℕ) → PassCheck
check_in engine key = check_of (manner_of engine) key

-- what one pass is hashed by: only for the digest that is printed
abbrev pub once_check : (digests : Bool) → PassCheck
once_check true = check.Sha256
once_check false = check.None

-- the digest of the raw file that bytes mean, if it isn't those bytes, by what says it of that
abbrev pub IsMeaningDigest : Form → PassCheck → Option (List ℕ) → (bytes : List ℕ) → Type 0
IsMeaningDigest raw_file by raw bytes = raw ≡ None
IsMeaningDigest packed_file by raw bytes = (known : List ℕ) × (raw ≡ Some known) × IsDigestOf (mark_by (raw_check by) known) (unpacked bytes)

-- the digests that are reported of a file by a check: of its bytes, and of the raw file that they mean
abbrev pub AreDigests : Manner → PassCheck → (digest : List ℕ) → (raw : Option (List ℕ)) → (file : List ℕ) → Type 0
AreDigests m by digest raw file = IsDigestOf (mark_by by digest) file × IsMeaningDigest (input_form m.program) by raw file
