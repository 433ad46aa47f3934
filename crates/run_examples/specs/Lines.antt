-- What the tables are made of: values of arguments, files, a disk, what a pass read, and what OUT
-- took.
use Prim.Native.String.{String}
use Rattle.std.specs.Prelude.{ℕ, List, [], ◌∷◌, true, false, Some, None, codes}
use Rattle.std.specs.Borrow.{Bor}
use Rattle.clap.specs.Words.{Row, Text}
use Rattle.clap.specs.declared.builder.value_parser.Reading.TheVariants.{AsWritten}
use Rattle.clap.specs.declared.parser.matches.ValueSource.TheVariants.{DefaultValue, CommandLine}
use Rattle.pbfcut_cli.specs.declared.words.Files.{Files}
use Rattle.pbfcut_program.specs.Events.{Reading, Writing}
use Rattle.pbfcut_program.specs.Files.{Disk, put}

-- ---- what is typed

-- the argument of this name was typed, with this value
abbrev pub given : String → String → Row
given name value =
    record {
      id = codes name;
      values = codes value ∷ [];
      count = None;
      source = Some CommandLine;
      reading = AsWritten;
    }

-- the flag of this name wasn't typed
abbrev pub off : String → Row
off name =
    record {
      id = codes name;
      values = codes "false" ∷ [];
      count = None;
      source = Some DefaultValue;
      reading = AsWritten;
    }

-- a text as a command refers to it
abbrev pub reference : Text → Bor Text
reference text = record { ref_ptr = (0, 0); now = text }

-- the files of a command that was typed without a flag
abbrev pub files : (input output : Text) → Files
files input output =
    record {
      input = reference input;
      output = reference output;
      overwrite = false;
      raw = false;
      progress = false;
      quiet = false;
      digests = false;
    }

-- ---- files

-- a disk that has only the file of this name, with these bytes
abbrev pub only : (name bytes : List ℕ) → Disk
only name bytes = put name (Some bytes) (λ other. None)

-- a pass read all of IN, which has these bytes
abbrev pub all_of : List ℕ → Reading
all_of bytes = record { bytes = bytes; left = Some []; failures = 0 }

-- a pass read nothing of it
abbrev pub none_of : List ℕ → Reading
none_of bytes = record { bytes = []; left = Some bytes; failures = 0 }

-- OUT, a file of this name, took these bytes, which all went out, and was to be kept
abbrev pub whole : (name bytes : List ℕ) → Writing
whole name bytes =
    record {
      name = Some name;
      bytes = bytes;
      reports = true;
      failures = 0;
      kept = true;
      fault = None;
    }

-- OUT, a file of this name, took nothing, and wasn't to be kept
abbrev pub empty : (name : List ℕ) → Writing
empty name = record (whole name []) { kept = false }

-- the files of a command that was typed with `--raw`
abbrev pub raw_files : (input output : Text) → Files
raw_files input output = record (files input output) { raw = true }
