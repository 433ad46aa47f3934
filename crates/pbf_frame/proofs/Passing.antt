-- The bytes that passed, put together; and the frame that was read part by part.
use Rattle.std.proofs.Common.{◌≡◌, ℕ, ◌+◌, ◌<◌, Bool, List, [], ◌++◌, Some, None, Ok, length, refl}
use Rattle.byteorder.specs.Endian.{big_number}
use Rattle.pbf_wire.specs.Least.{least}
use Rattle.pbf_frame.specs.declared.frame.FrameKind.{FrameKind}
use Rattle.pbf_frame.specs.declared.frame.FrameKind.TheVariants as kind
use Rattle.pbf_frame.specs.declared.header.Head.{Head}
use Rattle.pbf_frame.specs.declared.header.TheConstants.{HEADER_LIMIT}
use Rattle.pbf_frame.specs.declared.frame.TheConstants.{FILE_LIMIT}
use Rattle.pbf_frame.specs.Frames.{FrameSpec, order_faults}
use Rattle.pbf_frame.specs.Reads.{BufferHolds}
use Rattle.pbf_frame.specs.Sound.{IsFrame, IsSoundBlob}
use Rattle.pbf_frame.specs.Steps.{head_of}
use Rattle.pbf_frame.proofs.Parting.{FrameParts}
use Rattle.pbf_frame.proofs.Longest.{frame_at}

sound_held : (k : FrameKind) (at : ℕ) (blob held : List ℕ) → BufferHolds k at blob held → IsSoundBlob k at blob
sound_held kind.Other at blob held holds = tt
sound_held k at blob held holds = holds.1

-- what was read part by part is a frame without a fault
pub frame_read : (h : Bool) (p : ℕ) (prefix header blob held : List ℕ) (head : Head) → length prefix ≡ 4 → big_number 4 prefix < HEADER_LIMIT → length header ≡ big_number 4 prefix → head_of (p + 4) header ≡ Ok head
    → least (order_faults (Some FILE_LIMIT) h p head.kind (p + 4 + length header + head.size)) ≡ None → length blob ≡ head.size → BufferHolds head.kind (p + 4 + length header) blob held
    → IsFrame h p (record { offset = p; prefix = prefix; header = header; blob = blob })
frame_read h p prefix header blob held head prefix_long small long says ordered sized holds =
    let f : FrameSpec = record { offset = p; prefix = prefix; header = header; blob = blob } in
    let parts : FrameParts h p (prefix ++ (header ++ (blob ++ []))) f [] = record {
      head = head;
      left = header ++ (blob ++ []);
      last = blob ++ [];
      offset = refl;
      split = refl;
      prefix_long = prefix_long;
      small = small;
      header_is = record { split = refl; long = long; says = says; ordered = ordered };
      blob_is = record { split = refl; long = sized; sound = sound_held head.kind (p + 4 + length header) blob held holds };
    } in
    frame_at h (prefix ++ (header ++ (blob ++ []))) f [] parts
