-- The conversion of a file: all its entities in canonical form.
use Rattle.std.specs.Prelude.{ℕ, List, [], Option, Some, None}
use Rattle.osm_entity.specs.Entity.{EntitySpec}
use Rattle.pbf_header.specs.Header.{HeaderSpec}
use Rattle.pbf_frame.specs.Frames.{FrameSpec}
use Rattle.pbf_frame.specs.Verdict.{Verdict, Says}
use Rattle.osm_pack.specs.Cuts.{written_file}
use Rattle.pbf_pass.specs.Counting.{stored_entities}
use Rattle.pbf_pass.specs.Pass.{file_header}

-- ---- the bytes

-- the header in written form, and all entities, cut into blocks
abbrev pub conversion : Option (ℕ × HeaderSpec) → List EntitySpec → List ℕ
conversion None es = []
conversion (Some header) es = written_file header.1 es

-- what is to be written for a file with this verdict: nothing if it has a fault
abbrev pub answer_bytes : Verdict → List ℕ
answer_bytes (frames, None) = conversion (file_header frames) (stored_entities frames)
answer_bytes (frames, Some e) = []

-- it has no fault, and its header can be written
abbrev pub CanBeWritten : Option Verdict → Type 0
CanBeWritten known = (frames : List FrameSpec) × Says known (frames, None)
