-- A frame in written form: a BlobHeader with its type and `datasize`, and a Blob with only raw data.
use Rattle.std.specs.Prelude.{ℕ, List, [], ◌∷◌, length, Some, codes}
use Rattle.byteorder.specs.Endian.{big_bytes}
use Rattle.pbf_wire.specs.Message.{Scalar, Each, message}
use Rattle.pbf_frame.specs.declared.blob.TheConstants.{RAW}
use Rattle.pbf_frame.specs.declared.frame.FrameKind.{FrameKind}
use Rattle.pbf_frame.specs.declared.frame.FrameKind.TheVariants as kind
use Rattle.pbf_frame.specs.declared.header.TheConstants.{TYPE, DATASIZE}
use Rattle.pbf_frame.specs.Frames.{FrameSpec, frame_bytes}

abbrev pub written_name : FrameKind → List ℕ
written_name kind.Header = codes "OSMHeader"
written_name kind.Data = codes "OSMData"
written_name kind.Other = []

unfoldable pub written_header : FrameKind → ℕ → List ℕ
written_header kind size = message (Each TYPE (written_name kind ∷ []) ∷ Scalar DATASIZE (Some size) ∷ [])

unfoldable pub written_blob : List ℕ → List ℕ
written_blob payload = message (Each RAW (payload ∷ []) ∷ [])

-- the frame of this kind and payload that is written at a place
abbrev pub written_at : ℕ → FrameKind → List ℕ → FrameSpec
written_at place kind payload =
    let blob = written_blob payload in
    let header = written_header kind (length blob) in
    record { offset = place; prefix = big_bytes 4 (length header); header = header; blob = blob }

-- its bytes, which are the same at every place
unfoldable pub written_frame : FrameKind → List ℕ → List ℕ
written_frame kind payload = frame_bytes (written_at 0 kind payload)
