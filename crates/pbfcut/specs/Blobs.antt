-- The text of `blobs`: a line for each frame.
use Rattle.std.specs.Prelude.{ℕ, List, [], ◌∷◌, ◌++◌, length, codes, decimal}
use Rattle.std.specs.List.{flat_map}
use Rattle.pbf_frame.specs.declared.frame.Frame.{Frame}
use Rattle.pbf_frame.specs.declared.frame.FrameKind.{FrameKind}
use Rattle.pbf_frame.specs.declared.frame.FrameKind.TheVariants as kind
use Rattle.pbf_frame.specs.Frames.{FrameSpec, frame_kind, frame_name, frame_payload}
use Rattle.osm_text.specs.Quoted.{quoted}

-- the type as it is, if it is known
abbrev pub shown_name : FrameKind → List ℕ → List ℕ
shown_name kind.Other name = quoted name
shown_name _ name = name

-- the payload's length, or that the blob isn't read
abbrev pub shown_length : FrameKind → ℕ → List ℕ
shown_length kind.Header n = decimal n
shown_length kind.Data n = decimal n
shown_length kind.Other n = codes "skipped"

-- the place, the type, the blob's size and the payload's length
abbrev pub blob_line : ℕ → FrameKind → List ℕ → ℕ → ℕ → List ℕ
blob_line offset kind name size n = decimal offset ++ 32 ∷ [] ++ shown_name kind name ++ 32 ∷ [] ++ decimal size ++ 32 ∷ [] ++ shown_length kind n ++ 10 ∷ []

abbrev pub line : FrameSpec → List ℕ
line f = blob_line f.offset (frame_kind f) (frame_name f) (length f.blob) (length (frame_payload f))

-- the same of a frame that is lent
abbrev pub lent_line : Frame → List ℕ
lent_line frame = blob_line frame.offset frame.kind frame.name.now frame.size (length frame.payload.now)

abbrev pub lines : List FrameSpec → List ℕ
lines frames = flat_map line frames
