-- A packed frame, as it is made.
use Rattle.std.specs.Prelude.{ℕ, List, ◌++◌, take, drop}
use Rattle.pbf_unpack.specs.declared.frame.RawFrame.{RawFrame}
use Rattle.pbf_unpack.specs.declared.packer.FramePacker.{FramePacker}
use Rattle.pbf_unpack.specs.declared.packer.Packing.{Packing}
use Rattle.pbf_unpack.specs.declared.packer.Packing.TheVariants.{Packed, Kept}
use Rattle.pbf_unpack.specs.Packing.{frame_held}
use Rattle.pbf_unpack.specs.Streams.{stream_in}

-- the blob, and the stream at its end
abbrev pub packed_blob : FramePacker → List ℕ
packed_blob p = drop p.start (take p.end p.room.items)

abbrev pub packed_stream : FramePacker → List ℕ
packed_stream p = stream_in p.end p.room.items

-- the whole frame
abbrev pub packed_held : FramePacker → List ℕ
packed_held p = p.front.items ++ packed_blob p

-- what goes on of a frame
abbrev pub goes_on : RawFrame → FramePacker → Packing → List ℕ
goes_on frame packer Packed = packed_held packer
goes_on frame packer Kept = frame_held frame
