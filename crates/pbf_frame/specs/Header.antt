-- The BlobHeader: the type of its frame and the size of its blob.
use Rattle.std.specs.Prelude.{ℕ, ℤ, pos, negsuc, nat_le, List, [], ◌++◌, Option, Some, None, if◌then◌else◌, is_none, unwrap_or, codes, nat_eq}
use Rattle.std.specs.Cmp.Lexicographic.{pointwise}
use Rattle.std.specs.Option.{option_and_then, option_map_or}
use Rattle.pbf_wire.specs.declared.fault.Fault.{Fault}
use Rattle.pbf_wire.specs.declared.fault.Reason.TheVariants.{Missing, DataSize}
use Rattle.pbf_wire.specs.Occurrence.{Content, Number, Occurrence, items, found}
use Rattle.pbf_wire.specs.Reading.{occurrence_text, last_of}
use Rattle.pbf_wire.specs.Signed.{low_i32}
use Rattle.pbf_frame.specs.declared.frame.FrameKind.{FrameKind}
use Rattle.pbf_frame.specs.declared.frame.FrameKind.TheVariants as kind
use Rattle.pbf_frame.specs.declared.header.Head.{Head}
use Rattle.pbf_frame.specs.declared.header.TheConstants.{TYPE, DATASIZE, LARGEST_SIZE}
use Rattle.pbf_wire.specs.Faults.{fault_where}

-- the number that an occurrence holds, as an int32
abbrev pub int32_held : Content → ℤ
int32_held (Number v) = low_i32 v
int32_held _ = pos 0

-- a size of a blob, if it may be one
abbrev pub size_within : ℤ → Option ℕ
size_within (pos n) = if nat_le n LARGEST_SIZE then Some n else None
size_within (negsuc n) = None

abbrev pub size_of : Option Occurrence → Option ℕ
size_of last = option_and_then (λ o. size_within (int32_held o.content)) last

-- the type of the frame whose header is at this place
abbrev pub frame_type_at : ℕ → List ℕ → List ℕ
frame_type_at at header = occurrence_text (last_of TYPE (found (items at header)))

-- the kind of frame that a type names
abbrev pub kind_named : List ℕ → FrameKind
kind_named name =
    if pointwise nat_eq name (codes "OSMHeader") then kind.Header
    else (if pointwise nat_eq name (codes "OSMData") then kind.Data else kind.Other)

abbrev pub size_faults : Option Occurrence → List Fault
size_faults last = option_map_or (λ o. fault_where (is_none (size_within (int32_held o.content))) o.place DataSize) last []

-- what is wrong with the fields of a header: a required one is absent, or the size is none of a blob
abbrev pub header_faults : ℕ → List ℕ → List Fault
header_faults at header =
    let type = last_of TYPE (found (items at header)) in
    let datasize = last_of DATASIZE (found (items at header)) in
    fault_where (is_none type) at (Missing TYPE) ++ fault_where (is_none datasize) at (Missing DATASIZE) ++ size_faults datasize

abbrev pub head_says : ℕ → List ℕ → Head
head_says at header = record { kind = kind_named (frame_type_at at header); size = unwrap_or (size_of (last_of DATASIZE (found (items at header)))) 0 }
