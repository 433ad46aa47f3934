-- Wire: how numbers and fields are spelled. A field is its tag, which is the varint of `number *
-- 8 + wire type`, and what the type says: 0 a varint, 1 eight bytes, 2 a length and so many
-- bytes, 5 four bytes.
--
-- The file of this chapter is a header and one Node message, whose three fields begin at byte
-- 44.
use Prim.Native.String.{String}
use Rattle.std.specs.Prelude.{ℕ, List, [], ◌∷◌, ◌++◌, length, map, replicate, pos}
use Rattle.pbf_wire.specs.declared.fault.Reason.TheVariants.{VarintCut, VarintLong, NumberZero, TagLarge, Group, WireType, LengthPast, FixedCut, WrongType}
use Rattle.osm_entity.specs.Entity.{Decoded}
use Rattle.pbf_examples.specs.Hex.{hex}
use Rattle.pbf_examples.specs.Reading.{◌means◌, ◌refused_at◌for◌, ◌of_each◌refused_at◌for◌, minus, node, way}
use Rattle.pbf_examples.specs.Frames.{header, data_head, field, data_frame, header_head, header_frame}

-- ---- a message in full

abbrev pub plain_node : List ℕ
plain_node =
    header
    ++ data_head ++ hex "10  0a 0e"  -- 19  a blob of 16 bytes, a payload of 14
    ++ hex "0a 02  0a 00"  -- 36  1 stringtable: one text, which is empty
    ++ hex "12 08"  -- 40  2 primitivegroup of 8 bytes
    ++ hex "0a 06"  -- 42  1 nodes: a message of 6 bytes
    ++ hex "08 14"  -- 44  1 id: the zigzag of 10
    ++ hex "40 02"  -- 46  8 lat: the zigzag of 1, so 100 nanodegrees
    ++ hex "48 02"  -- 48  9 lon: the same

abbrev pub ten : List Decoded
ten = node (pos 10) (pos 100) (pos 100) [] ∷ []

-- the same file with these bytes as the Node
abbrev pub with_node : List ℕ → List ℕ
with_node message = header ++ data_frame (hex "0a 02 0a 00" ++ field "12" (field "0a" message))

-- or with a Way, whose id is an int64
abbrev pub with_way : List ℕ → List ℕ
with_way message = header ++ data_frame (hex "0a 02 0a 00" ++ field "12" (field "1a" message))

pub record PlainNode : Type 0 where
  pub meaning : plain_node means ten
  pub the_same : with_node (hex "08 14  40 02  48 02") means ten

-- ---- numbers

-- seven bits a byte, the lowest first, the top bit set on every byte but the last; in up to ten
-- bytes
pub record Varints : Type 0 where
  pub two_bytes : with_node (hex "08 94 00  40 02  48 02") means ten
  pub ten_bytes : with_node (hex "08 94 80 80 80 80 80 80 80 80 00  40 02  48 02") means ten
  pub tag_in_two_bytes : with_node (hex "88 00 14  40 02  48 02") means ten
  -- 300 = 2 * 128 + 44
  pub three_hundred : with_way (hex "08 ac 02") means way (pos 300) [] ∷ []

pub record Signs : Type 0 where
  -- sint64: 0, -1, 1, -2 are stored as 0, 1, 2, 3
  pub zero :
      with_node (hex "08 00  40 01  48 03") means node (pos 0) (minus 100) (minus 200) [] ∷ []
  pub minus_ten :
      with_node (hex "08 13  40 02  48 02") means node (minus 10) (pos 100) (pos 100) [] ∷ []
  -- int64: two's complement, so that a number below zero has ten bytes
  pub plain : with_way (hex "08 07") means way (pos 7) [] ∷ []
  pub minus_seven : with_way (hex "08 f9 ff ff ff ff ff ff ff ff 01") means way (minus 7) [] ∷ []

-- ---- fields

pub record FieldOrder : Type 0 where
  pub reversed : with_node (hex "48 02  40 02  08 14") means ten
  -- of a field that occurs again the last counts
  pub twice : with_node (hex "08 16  40 02  48 02  08 14") means ten

-- a field that is not known is skipped, by its wire type; what it holds is not read
pub record UnknownFields : Type 0 where
  pub number : with_node (hex "08 14  78 05  40 02  48 02") means ten
  pub eight_bytes : with_node (hex "79 ff ff ff ff ff ff ff ff  08 14  40 02  48 02") means ten
  pub bytes : with_node (hex "08 14  40 02  48 02  7a 02 ff ff") means ten
  pub four_bytes : with_node (hex "08 14  40 02  48 02  7d ff ff ff ff") means ten
  -- in the group, in the table and beside both
  pub in_group :
      header ++ data_frame (hex "0a 02 0a 00" ++ field "12" (hex "78 05  0a 06 08 14 40 02 48 02"))
      means ten
  pub in_table :
      header ++ data_frame (hex "0a 04 0a 00 78 05" ++ field "12" (hex "0a 06 08 14 40 02 48 02"))
      means ten
  pub in_block :
      header ++ data_frame (hex "78 05  0a 02 0a 00" ++ field "12" (hex "0a 06 08 14 40 02 48 02"))
      means ten

-- ---- faults

-- each at the first byte of the field's tag
pub record WireFaults : Type 0 where
  pub number_cut : with_node (hex "08 14  40 02  48") refused_at 48 for VarintCut
  pub tag_cut : with_node (hex "08 14  40 02  c8") refused_at 48 for VarintCut
  pub length_cut : with_node (hex "08 14  40 02  48 02  7a 80") refused_at 50 for VarintCut
  -- ten bytes that all go on, and a tenth byte above 1, which is 2^64 or more
  pub goes_on :
      with_node (hex "08 80 80 80 80 80 80 80 80 80 80  40 02  48 02") refused_at 44 for VarintLong
  pub above :
      with_node (hex "08 80 80 80 80 80 80 80 80 80 02  40 02  48 02") refused_at 44 for VarintLong
  -- nine bytes that go on, and then the message ends
  pub nine :
      with_node (hex "40 02  48 02  08 80 80 80 80 80 80 80 80 80") refused_at 48 for VarintCut
  pub number_zero : with_node (hex "00 00  08 14  40 02  48 02") refused_at 44 for NumberZero
  -- 2^32
  pub tag_above :
      with_node (hex "80 80 80 80 10 00  08 14  40 02  48 02") refused_at 44 for TagLarge
  pub group_begins : with_node (hex "0b  08 14  40 02  48 02") refused_at 44 for Group
  pub group_ends : with_node (hex "0c  08 14  40 02  48 02") refused_at 44 for Group
  pub type_six : with_node (hex "0e  08 14  40 02  48 02") refused_at 44 for WireType
  pub type_seven : with_node (hex "0f  08 14  40 02  48 02") refused_at 44 for WireType
  pub length_past : with_node (hex "08 14  40 02  48 02  7a 02 ff") refused_at 50 for LengthPast
  pub eight_cut : with_node (hex "08 14  40 02  48 02  79 00 00") refused_at 50 for FixedCut
  pub four_cut : with_node (hex "08 14  40 02  48 02  7d 00 00") refused_at 50 for FixedCut
  -- an id of eight bytes, and of bytes with a length
  pub id_of_eight :
      with_node (hex "09 14 00 00 00 00 00 00 00  40 02  48 02") refused_at 44 for WrongType
  pub id_of_bytes : with_node (hex "0a 01 14  40 02  48 02") refused_at 44 for WrongType
  -- of one field the first of these: number 0 before a group, a tag of 2^32 before number 0
  pub zero_and_group : with_node (hex "03  08 14  40 02  48 02") refused_at 44 for NumberZero
  pub above_and_group :
      with_node (hex "83 80 80 80 10  08 14  40 02  48 02") refused_at 44 for TagLarge

-- ---- known fields

-- each field of each message has a wire type of its own, a column 0 or 2: with another it is
-- refused

-- fields of these tags, of a byte each, with eight bytes, which no known field has; and the same of
-- tags of one more byte
abbrev pub eight : String → List (List ℕ)
eight tags = map (λ tag. tag ∷ replicate 8 0) (hex tags)

abbrev pub long_eight : String → String → List (List ℕ)
long_eight tags last = map (λ tag. tag ∷ hex last ++ replicate 8 0) (hex tags)

-- fields of these tags with a 0, which is a number or an empty length
abbrev pub short : String → List (List ℕ)
short tags = map (λ tag. tag ∷ 0 ∷ []) (hex tags)

abbrev pub long_short : String → String → List (List ℕ)
long_short tags last = map (λ tag. tag ∷ hex last ++ 0 ∷ []) (hex tags)

-- files that have these bytes as the message of the name
abbrev pub blob_header : List ℕ → List ℕ
blob_header message = hex "00 00 00" ++ length message ∷ message

abbrev pub blob : List ℕ → List ℕ
blob message = header_head ++ length message ∷ message

abbrev pub bbox : List ℕ → List ℕ
bbox message = header_frame (field "0a" message)

abbrev pub block : List ℕ → List ℕ
block message = header ++ data_frame message

abbrev pub table : List ℕ → List ℕ
table message = block (field "0a" message)

abbrev pub group : List ℕ → List ℕ
group message = block (hex "0a 00" ++ field "12" message)

abbrev pub dense : List ℕ → List ℕ
dense message = group (field "12" message)

abbrev pub relation : List ℕ → List ℕ
relation message = group (field "22" message)

-- Info and DenseInfo
abbrev pub info : String → List ℕ → List ℕ
info tag message = group (field tag (field "22" message))

abbrev pub dense_info : List ℕ → List ℕ
dense_info message = dense (field "2a" message)

pub record KnownFields : Type 0 where
  pub blob_header :
      blob_header of_each (eight "09 11 19" ++ short "08 10 1a") refused_at 4 for WrongType
  pub blob :
      blob of_each (eight "09 11 19 21 29 31 39" ++ short "08 12 18 20 28 30 38")
      refused_at 17 for WrongType
  pub header_block :
      header_frame of_each (eight "09 21 29" ++ long_eight "81 89" "01"
      ++ long_eight "81 89 91" "02")
      refused_at 19 for WrongType
  pub header_block_short :
      header_frame of_each (short "08 20 28" ++ long_short "80 88" "01"
      ++ long_short "82 8a 90" "02")
      refused_at 19 for WrongType
  pub header_bbox :
      bbox of_each (eight "09 11 19 21" ++ short "0a 12 1a 22") refused_at 21 for WrongType
  pub primitive_block :
      block of_each (eight "09 11" ++ long_eight "89 91 99 a1" "01") refused_at 36 for WrongType
  pub primitive_block_short :
      block of_each (short "08 10" ++ long_short "8a 92 9a a2" "01") refused_at 36 for WrongType
  pub string_table : table of_each (eight "09" ++ short "08") refused_at 38 for WrongType
  pub primitive_group :
      group of_each (eight "09 11 19 21 29" ++ short "08 10 18 20 28") refused_at 40 for WrongType
  pub plain :
      with_node of_each (eight "09 11 19 21 41 49" ++ short "0a 20 42 4a")
      refused_at 44 for WrongType
  pub dense_nodes : dense of_each (eight "09 29 41 49 51" ++ short "28") refused_at 42 for WrongType
  pub dense_infos : dense_info of_each (eight "09 11 19 21 29 31") refused_at 44 for WrongType
  pub way_fields :
      with_way of_each (eight "09 11 19 21 41 49 51" ++ short "0a 20") refused_at 44 for WrongType
  pub relation_fields :
      relation of_each (eight "09 11 19 21 41 49 51" ++ short "0a 20") refused_at 42 for WrongType
  pub info_of_node :
      info "0a" of_each (eight "09 11 19 21 29 31" ++ short "0a 12 1a 22 2a 32")
      refused_at 44 for WrongType
  pub info_of_way :
      info "1a" of_each (eight "09 11 19 21 29 31" ++ short "0a 12 1a 22 2a 32")
      refused_at 44 for WrongType
  pub info_of_relation :
      info "22" of_each (eight "09 11 19 21 29 31" ++ short "0a 12 1a 22 2a 32")
      refused_at 44 for WrongType
