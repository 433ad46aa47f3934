-- Frames. A file is a list of them. Each is four bytes, the most significant first, that say how
-- long its BlobHeader is; the BlobHeader, which names the type and says the size of the blob;
-- and the Blob, whose `raw` is the payload.
--
-- All three, and the messages in them, are made of fields. A field begins with its tag, `number
-- * 8 + wire type`: 0a is field 1 with a length and so many bytes, 18 is field 3 with a number.
-- The chapter Wire says the rest. A number of type sint32 or sint64 is stored as its zigzag: n
-- as 2n, and -n as 2n - 1.
use Prim.Native.String.{String}
use Rattle.std.specs.Prelude.{◌≡◌, ℕ, ◌+◌, ◌-◌, ◌^◌, false, List, [], ◌∷◌, ◌++◌, length, drop, replicate, pos, Some, None}
use Rattle.pbf_wire.specs.declared.fault.Reason.TheVariants.{VarintCut, WrongType, PrefixCut, HeaderLong, HeaderCut, BlobCut, DataSize, NoRaw, Zlib, Lzma, Bzip2, Lz4, Zstd, NoHeader, SecondHeader, DataFirst, Missing, FileLong}
use Rattle.pbf_frame.specs.Verdict.{judged}
use Rattle.pbf_wire.specs.Faults.{fault}
use Rattle.osm_entity.specs.Entity.{Decoded}
use Rattle.pbf_examples.specs.Hex.{hex}
use Rattle.pbf_examples.specs.Reading.{◌means◌, ◌refused_at◌for◌, faults_of_beginnings, ◌shows◌, ◌lists◌, minus, node}

-- ---- a file of one frame

-- at each piece: its offset in the file, and what it is
abbrev pub header : List ℕ
header =
    hex "00 00 00 0d"  -- 0   the BlobHeader has 13 bytes
    ++ hex "0a 09 4f 53 4d 48 65 61 64 65 72"  -- 4   1 type: 9 bytes, "OSMHeader"
    ++ hex "18 02"  -- 15  3 datasize: the Blob has 2 bytes
    ++ hex "0a 00"  -- 17  1 raw: no bytes, an empty HeaderBlock

-- `blobs` prints the offset of a frame, its type, the size of its blob and that of its payload
pub record HeaderAlone : Type 0 where
  pub meaning : header means []
  pub listed : header lists "0 OSMHeader 2 0" ∷ []
  pub shown : header shows []

-- ---- a file with a frame of data

-- three nodes; the chapter Nodes says what their payload may be otherwise
abbrev pub three_nodes : List ℕ
three_nodes =
    header
    ++ hex "00 00 00 0b"  -- 19  the BlobHeader has 11 bytes
    ++ hex "0a 07 4f 53 4d 44 61 74 61"  -- 23  1 type: 7 bytes, "OSMData"
    ++ hex "18 19"  -- 32  3 datasize: 25
    ++ hex "0a 17"  -- 34  1 raw: 23 bytes, a PrimitiveBlock
    ++ hex "0a 02  0a 00"  -- 36  1 stringtable of 2 bytes: one text, which is empty
    ++ hex "12 11"  -- 40  2 primitivegroup of 17 bytes
    ++ hex "12 0f"  -- 42  2 dense of 15 bytes
    ++ hex "0a 03  14 02 08"  -- 44  1 id, a delta column: 10, +1, +4
    ++ hex "42 03  02 03 04"  -- 49  8 lat: 1, -2, +2
    ++ hex "4a 03  02 00 00"  -- 54  9 lon: 1, +0, +0

-- a stored place counts hundreds of nanodegrees
abbrev pub three : List Decoded
three =
    node (pos 10) (pos 100) (pos 100) [] ∷ node (pos 11) (minus 100) (pos 100) []
    ∷ node (pos 15) (pos 100) (pos 100) [] ∷ []

pub record DataFrame : Type 0 where
  pub meaning : three_nodes means three
  pub listed : three_nodes lists "0 OSMHeader 2 0" ∷ "19 OSMData 25 23" ∷ []
  pub shown : three_nodes shows "N 10 100 100" ∷ "N 11 -100 100" ∷ "N 15 100 100" ∷ []

-- ---- short forms, for this chapter and those that follow

-- a field that holds bytes, fewer than 128: its tag, how many they are, and they
abbrev pub field : String → List ℕ → List ℕ
field tag bytes = hex tag ++ length bytes ∷ bytes

-- what begins a frame of data, up to the size of its blob
abbrev pub data_head : List ℕ
data_head = hex "00 00 00 0b  0a 07 4f 53 4d 44 61 74 61  18"

-- a frame of data with this payload
abbrev pub data_frame : List ℕ → List ℕ
data_frame payload = data_head ++ (length payload + 2) ∷ field "0a" payload

-- the field 1 `type` of a header frame, such a frame up to the size of its blob, and one with this
-- payload
abbrev pub header_type : List ℕ
header_type = hex "0a 09 4f 53 4d 48 65 61 64 65 72"

abbrev pub header_head : List ℕ
header_head = hex "00 00 00 0d" ++ header_type ++ hex "18"

abbrev pub header_frame : List ℕ → List ℕ
header_frame payload = header_head ++ (length payload + 2) ∷ field "0a" payload

-- one node, in a frame of its own
abbrev pub node_1 : List ℕ
node_1 = data_head ++ hex "13  0a 11  0a 02 0a 00  12 0b 12 09  0a 01 02  42 01 02  4a 01 02"

abbrev pub one : List Decoded
one = node (pos 1) (pos 100) (pos 100) [] ∷ []

pub record ShortForms : Type 0 where
  pub node : header ++ node_1 means one
  pub twice : header ++ node_1 ++ node_1 means one ++ one

-- ---- frames that are spelled otherwise

pub record SpelledFrames : Type 0 where
  -- `datasize` before `type`
  pub turned : hex "00 00 00 0d  18 02" ++ header_type ++ hex "0a 00" means []
  pub turned_listed :
      hex "00 00 00 0d  18 02" ++ header_type ++ hex "0a 00" lists "0 OSMHeader 2 0" ∷ []
  -- 2 in two bytes
  pub longer : hex "00 00 00 0e" ++ header_type ++ hex "18 82 00  0a 00" means []
  pub longer_listed :
      hex "00 00 00 0e" ++ header_type ++ hex "18 82 00  0a 00" lists "0 OSMHeader 2 0" ∷ []
  -- 2 `indexdata` is not read, and an unknown field 4 is skipped
  pub more : hex "00 00 00 13" ++ header_type ++ hex "12 01 ff  22 01 ff  18 02  0a 00" means []
  -- the last `datasize` counts, and so does the last `raw`
  pub sized_twice : hex "00 00 00 0f" ++ header_type ++ hex "18 07  18 02  0a 00" means []
  pub raw_twice : header_head ++ hex "05  0a 01 ff  0a 00" means []
  -- 2 `raw_size` is not read
  pub raw_size : header_head ++ hex "04  0a 00  10 05" means []

-- ---- frames of another type

-- its two bytes are no Blob
abbrev pub foo : List ℕ
foo = hex "00 00 00 07  0a 03 46 6f 6f  18 02" ++ hex "ff ff"

-- a blob of another type is skipped
pub record OtherTypes : Type 0 where
  pub between : header ++ foo ++ node_1 means one
  pub first : foo ++ header ++ node_1 means one
  pub last : header ++ node_1 ++ foo means one
  pub listed :
      header ++ foo ++ node_1
      lists "0 OSMHeader 2 0" ∷ "19 \"Foo\" 2 skipped" ∷ "32 OSMData 19 17" ∷ []
  pub alone : hex "00 00 00 07  0a 03 46 6f 6f  18 00" refused_at 11 for NoHeader
  pub alone_listed : hex "00 00 00 07  0a 03 46 6f 6f  18 00" lists "0 \"Foo\" 0 skipped" ∷ []

-- ---- the order of frames

pub record FrameOrder : Type 0 where
  pub empty : [] refused_at 0 for NoHeader
  pub empty_listed : [] lists []
  pub second_header : header ++ header refused_at 19 for SecondHeader
  pub header_last : node_1 ++ header refused_at 0 for DataFirst
  pub no_header : drop 19 three_nodes refused_at 0 for DataFirst
  -- `blobs` lists what comes before the frame with the fault
  pub second_header_listed : header ++ header lists "0 OSMHeader 2 0" ∷ []
  pub data_first_listed : node_1 ++ header lists []

-- ---- a file that is cut

-- three nodes have 59 bytes; after each number of them
pub record CutFile : Type 0 where
  pub no_byte : faults_of_beginnings three_nodes 0 1 ≡ Some (fault 0 NoHeader) ∷ []
  pub prefix : faults_of_beginnings three_nodes 1 3 ≡ replicate 3 (Some (fault 0 PrefixCut))
  pub blob_header : faults_of_beginnings three_nodes 4 13 ≡ replicate 13 (Some (fault 0 HeaderCut))
  pub blob : faults_of_beginnings three_nodes 17 2 ≡ replicate 2 (Some (fault 17 BlobCut))
  pub data_prefix : faults_of_beginnings three_nodes 20 3 ≡ replicate 3 (Some (fault 19 PrefixCut))
  pub data_header :
      faults_of_beginnings three_nodes 23 11 ≡ replicate 11 (Some (fault 19 HeaderCut))
  pub data_blob : faults_of_beginnings three_nodes 34 25 ≡ replicate 25 (Some (fault 34 BlobCut))

-- ---- faults of a frame

pub record FrameFaults : Type 0 where
  -- a BlobHeader of 65,536 bytes
  pub long : hex "00 01 00 00" refused_at 0 for HeaderLong
  -- the BlobHeader is at 4, and has no `type`, no `datasize`
  pub no_type : hex "00 00 00 02  18 02  0a 00" refused_at 4 for Missing 1
  pub no_size : hex "00 00 00 0b" ++ header_type ++ hex "0a 00" refused_at 4 for Missing 3
  -- -1, in ten bytes, and 33,555,456
  pub below :
      hex "00 00 00 16" ++ header_type ++ hex "18 ff ff ff ff ff ff ff ff ff 01  0a 00"
      refused_at 15 for DataSize
  pub above :
      hex "00 00 00 10" ++ header_type ++ hex "18 80 88 80 10  0a 00" refused_at 15 for DataSize
  -- the wire form of the BlobHeader, and of the Blob
  pub cut : hex "00 00 00 0c" ++ header_type ++ hex "18  0a 00" refused_at 15 for VarintCut
  pub other_type :
      hex "00 00 00 0e" ++ header_type ++ hex "1a 01 02  0a 00" refused_at 15 for WrongType
  pub blob_cut : header_head ++ hex "01  0a" refused_at 17 for VarintCut

-- a frame ends at byte 2^62 at the latest: these 19 bytes, as if they were far on in a file
pub record LongestFile : Type 0 where
  pub most : (judged false (2 ^ 62 - 19) header).1 ≡ None
  pub over : (judged false (2 ^ 62 - 18) header).1 ≡ Some (fault (2 ^ 62 - 18) FileLong)

-- a compressed blob is refused at the field that says so, also if there is a `raw`
pub record Compressed : Type 0 where
  pub none : header_head ++ hex "02  10 05" refused_at 17 for NoRaw
  pub zlib : header_head ++ hex "02  1a 00" refused_at 17 for Zlib
  pub lzma : header_head ++ hex "02  22 00" refused_at 17 for Lzma
  pub bzip2 : header_head ++ hex "02  2a 00" refused_at 17 for Bzip2
  pub lz4 : header_head ++ hex "02  32 00" refused_at 17 for Lz4
  pub zstd : header_head ++ hex "02  3a 00" refused_at 17 for Zstd
  pub beside_raw : header_head ++ hex "04  0a 00  1a 00" refused_at 19 for Zlib
  pub behind_raw_size : header_head ++ hex "05  10 05  1a 01 78" refused_at 19 for Zlib
