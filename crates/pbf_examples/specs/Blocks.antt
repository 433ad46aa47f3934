-- Blocks. The payload of an OSMData frame is a PrimitiveBlock: a table of texts, groups of
-- entities, and the scale, four numbers that say what the stored numbers mean.
--
-- In the files of this chapter the block begins at byte 36.
use Rattle.std.specs.Prelude.{ℕ, List, [], ◌∷◌, ◌++◌, pos}
use Rattle.pbf_wire.specs.declared.fault.Reason.TheVariants.{VarintCut, VarintLong, LengthPast, Missing, TwiceMessage, MixedGroup, Changesets, StringIndex, Granularity, DateGranularity, TagColumns}
use Rattle.pbf_examples.specs.Hex.{hex}
use Rattle.pbf_examples.specs.Reading.{◌means◌, ◌refused_at◌for◌, ◌lists◌, node, way, relation}
use Rattle.pbf_examples.specs.Frames.{header, data_frame, field, one}

-- a header and a block of these fields
abbrev pub with_block : List ℕ → List ℕ
with_block fields = header ++ data_frame fields

-- 1 stringtable: one text, which is empty; or the texts "", "a" and "b"
abbrev pub one_text : List ℕ
one_text = hex "0a 02  0a 00"

abbrev pub ab : List ℕ
ab = hex "0a 08  0a 00  0a 01 61  0a 01 62"

-- 2 primitivegroup, one of each kind
abbrev pub dense_1 : List ℕ
dense_1 = hex "12 0b" ++ hex "12 09  0a 01 02  42 01 02  4a 01 02"

abbrev pub way_7 : List ℕ
way_7 = hex "12 04" ++ hex "1a 02  08 07"

abbrev pub relation_8 : List ℕ
relation_8 = hex "12 04" ++ hex "22 02  08 08"

-- ---- tables and groups

-- entities come in the order of groups, and in a group in its own order
pub record Groups : Type 0 where
  pub one_group : with_block (one_text ++ dense_1) means one
  pub table_behind : with_block (dense_1 ++ one_text) means one
  pub table_between : with_block (dense_1 ++ one_text ++ dense_1) means one ++ one
  pub three_kinds :
      with_block (one_text ++ relation_8 ++ way_7 ++ dense_1)
      means relation (pos 8) [] ∷ way (pos 7) [] ∷ one
  pub two_ways :
      with_block (one_text ++ hex "12 08  1a 02 08 07  1a 02 08 06")
      means way (pos 7) [] ∷ way (pos 6) [] ∷ []

pub record EmptyForms : Type 0 where
  pub no_group : with_block one_text means []
  pub no_text : with_block (hex "0a 00") means []
  pub empty_group : with_block (one_text ++ hex "12 00" ++ dense_1) means one
  pub empty_dense : with_block (one_text ++ hex "12 02 12 00") means []

pub record GroupFaults : Type 0 where
  pub no_block : with_block [] refused_at 36 for Missing 1
  pub no_table : with_block dense_1 refused_at 36 for Missing 1
  pub two_tables : with_block (one_text ++ one_text) refused_at 40 for TwiceMessage
  -- 12 12: two dense messages in one group
  pub two_dense : with_block (one_text ++ hex "12 04  12 00  12 00") refused_at 44 for TwiceMessage
  pub way_and_relation :
      with_block (one_text ++ hex "12 08  1a 02 08 07  22 02 08 08") refused_at 46 for MixedGroup
  pub dense_and_way :
      with_block (one_text ++ hex "12 06  12 00  1a 02 08 07") refused_at 44 for MixedGroup
  pub dense_and_node :
      with_block (one_text ++ hex "12 0a  12 00  0a 06 08 02 40 02 48 02")
      refused_at 44 for MixedGroup
  -- 5 changesets, at each one, also if it is empty
  pub changesets : with_block (one_text ++ hex "12 02  2a 00") refused_at 42 for Changesets

-- ---- the scale

-- a place is `offset + granularity * stored`; the node's stored place is 1 and 1. The numbers
-- begin at byte 59
abbrev pub scaled : List ℕ → List ℕ
scaled numbers = with_block (ab ++ dense_1 ++ numbers)

pub record Scales : Type 0 where
  -- 17 granularity: 1000 in place of 100
  pub coarse : scaled (hex "88 01 e8 07") means node (pos 1) (pos 1000) (pos 1000) [] ∷ []
  -- 19 lat_offset and 20 lon_offset, int64
  pub up : scaled (hex "98 01 05  a0 01 07") means node (pos 1) (pos 105) (pos 107) [] ∷ []
  pub down :
      scaled (hex "98 01 fe ff ff ff ff ff ff ff ff 01")
      means node (pos 1) (pos 98) (pos 100) [] ∷ []
  pub all :
      scaled (hex "88 01 e8 07" ++ hex "98 01 ff ff ff ff ff ff ff ff ff 01"
      ++ hex "a0 01 ff ff ff ff ff ff ff ff ff 01")
      means node (pos 1) (pos 999) (pos 999) [] ∷ []
  -- before the table and the groups
  pub in_front :
      with_block (hex "a0 01 07  88 01 e8 07" ++ one_text ++ dense_1)
      means node (pos 1) (pos 1000) (pos 1007) [] ∷ []
  -- an int32 is the low 32 bits: 2^32 + 100
  pub high_bits : scaled (hex "88 01 e4 80 80 80 10") means one
  -- the last counts, and only the last is judged
  pub twice : scaled (hex "88 01 00  88 01 07") means node (pos 1) (pos 7) (pos 7) [] ∷ []

pub record ScaleFaults : Type 0 where
  pub zero : scaled (hex "88 01 00") refused_at 59 for Granularity
  pub minus_one : scaled (hex "88 01 ff ff ff ff ff ff ff ff ff 01") refused_at 59 for Granularity
  -- 2^32
  pub low_bits_of_zero : scaled (hex "88 01 80 80 80 80 10") refused_at 59 for Granularity
  pub last_is_zero : scaled (hex "88 01 07  88 01 00") refused_at 62 for Granularity
  -- 18 date_granularity
  pub dates_of_zero : scaled (hex "90 01 00") refused_at 59 for DateGranularity
  pub dates_below :
      scaled (hex "90 01 ff ff ff ff ff ff ff ff ff 01") refused_at 59 for DateGranularity
  -- ten bytes that all go on, and nine at the end of the block
  pub goes_on : scaled (hex "80 80 80 80 80 80 80 80 80 80") refused_at 59 for VarintLong
  pub cut : scaled (hex "80 80 80 80 80 80 80 80 80") refused_at 59 for VarintCut

-- ---- which of several faults is returned

-- of one frame: by phase (wire form, structure, values), then by offset; and no frame after it is
-- read
pub record FirstFault : Type 0 where
  -- two ways: a key that the table lacks, and after it a way that is cut
  pub value_and_wire :
      with_block (one_text
      ++ field "12" (hex "1a 08  08 01  12 01 05  1a 01 00" ++ hex "1a 01  08"))
      refused_at 54 for VarintCut
  pub value_alone :
      with_block (one_text ++ field "12" (hex "1a 08  08 01  12 01 05  1a 01 00"))
      refused_at 46 for StringIndex
  -- a way with such a key, and a column that passes its end
  pub three_phases :
      with_block (one_text ++ field "12" (hex "1a 0a  08 01  12 01 05  1a 01 05  42 01"))
      refused_at 52 for LengthPast
  -- a way with a key and no value, and a node in its group: the greater number, at the lower offset
  pub by_offset :
      with_block (one_text
      ++ field "12" (hex "1a 05  08 01  12 01 00" ++ hex "0a 06  08 02  40 02  48 02"))
      refused_at 42 for TagColumns
  -- a granularity of 0, and a group with changesets after it
  pub structure_first :
      with_block (one_text ++ hex "88 01 00" ++ hex "12 02 2a 00") refused_at 45 for Changesets
  -- a block with changesets, and a byte after it; `blobs`, which reads only frames, lists the
  -- block
  pub frame_by_frame :
      with_block (one_text ++ hex "12 02  2a 00") ++ 0 ∷ [] refused_at 42 for Changesets
  pub frames_alone :
      with_block (one_text ++ hex "12 02  2a 00") ++ 0 ∷ []
      lists "0 OSMHeader 2 0" ∷ "19 OSMData 10 8" ∷ []
