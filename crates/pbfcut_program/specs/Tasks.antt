-- That what a task writes is a raw file.
use Rattle.std.specs.Prelude.{ℕ, List}
use Rattle.pbf_unpack.specs.RawFrames.{IsRawFile}
use Rattle.pbfcut.specs.Tasks.{Task, answer_of}

-- what is to be written for this raw file is one
abbrev pub GivesRaw : Task → List ℕ → Type 0
GivesRaw task file = IsRawFile (answer_of task file)
