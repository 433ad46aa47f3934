-- Tags. A key and a value are places in the block's table of texts, from 0 on. A Node, Way or
-- Relation has the columns `keys` and `vals`. DenseNodes has one column `keys_vals`: for each
-- node key, value, key, value and so on, and 0 at its end.
use Rattle.std.specs.Prelude.{ℕ, List, [], ◌∷◌, ◌++◌, pos}
use Rattle.pbf_wire.specs.declared.fault.Reason.TheVariants.{StringIndex, KeysVals, TagColumns}
use Rattle.osm_entity.specs.Entity.{TagSpec, Decoded, way_through, relation_among}
use Rattle.pbf_examples.specs.Hex.{hex}
use Rattle.pbf_examples.specs.Reading.{◌means◌, ◌refused_at◌for◌, tag, bare, node}
use Rattle.pbf_examples.specs.Frames.{header, data_head, field}
use Rattle.pbf_examples.specs.Blocks.{with_block, one_text, ab}

-- ---- a node with a tag

abbrev pub tagged : List ℕ
tagged =
    header
    ++ data_head ++ hex "26  0a 24"  -- 19  a blob of 38 bytes, a payload of 36
    ++ hex "0a 10"  -- 36  1 stringtable of 16 bytes:
    ++ hex "0a 00  0a 01 61  0a 01 62"  --     0 "", 1 "a", 2 "b"
    ++ hex "0a 01 63  0a 01 64  0a 00"  --     3 "c", 4 "d", 5 ""
    ++ hex "12 10  12 0e"  -- 54  2 primitivegroup: 2 dense
    ++ hex "0a 01 02  42 01 02  4a 01 02"  -- 58  node 1
    ++ hex "52 03  05 01 00"  -- 67  10 keys_vals: text 5, text 1, end

pub record Tagged : Type 0 where
  pub meaning : tagged means node (pos 1) (pos 100) (pos 100) (tag "" "a" ∷ []) ∷ []

-- ---- no tags

-- two nodes of a block whose one text is empty, and these fields besides
abbrev pub two_with : List ℕ → List ℕ
two_with fields =
    with_block (one_text
    ++ field "12" (field "12" (hex "0a 02 02 02  42 02 02 00  4a 02 02 00" ++ fields)))

abbrev pub two : List Decoded
two = node (pos 1) (pos 100) (pos 100) [] ∷ node (pos 2) (pos 100) (pos 100) [] ∷ []

pub record NoTags : Type 0 where
  pub absent : two_with [] means two
  pub empty : two_with (hex "52 00") means two
  pub ends_alone : two_with (hex "52 02  00 00") means two
  pub one_end : two_with (hex "52 01  00") refused_at 42 for KeysVals

-- ---- tags of dense nodes

-- three nodes at one place with these fields besides, which begin at byte 65
abbrev pub three_with : List ℕ → List ℕ
three_with fields =
    with_block (ab
    ++ field "12" (field "12" (hex "0a 03 02 02 02  42 03 02 00 00  4a 03 02 00 00" ++ fields)))

abbrev pub three_of : List TagSpec → List TagSpec → List TagSpec → List Decoded
three_of first second third =
    node (pos 1) (pos 100) (pos 100) first ∷ node (pos 2) (pos 100) (pos 100) second
    ∷ node (pos 3) (pos 100) (pos 100) third ∷ []

-- the same with one node
abbrev pub one_with : List ℕ → List ℕ
one_with fields =
    with_block (ab ++ field "12" (field "12" (hex "0a 01 02  42 01 02  4a 01 02" ++ fields)))

abbrev pub one_of : List TagSpec → List Decoded
one_of tags = node (pos 1) (pos 100) (pos 100) tags ∷ []

abbrev pub ab_and_ba : List Decoded
ab_and_ba = three_of (tag "a" "b" ∷ []) [] (tag "b" "a" ∷ tag "a" "b" ∷ [])

pub record DenseTags : Type 0 where
  pub full : three_with (hex "52 09  01 02 00  00  02 01 01 02 00") means ab_and_ba
  pub in_pieces :
      three_with (hex "52 01 01  52 05 02 00 00 02 01  50 01  52 02 02 00") means ab_and_ba
  -- in value place 0 is text 0
  pub empty_value :
      three_with (hex "52 05  01 00 00  00  00") means three_of (tag "a" "" ∷ []) [] []
  -- an int32 is the low 32 bits, so 2^32 is an end
  pub high_bits : one_with (hex "52 07  01 02 80 80 80 80 10") means one_of (tag "a" "b" ∷ [])
  -- a tag that is repeated counts as often as it occurs
  pub repeated :
      one_with (hex "52 07  01 02 01 02 01 01 00")
      means one_of (tag "a" "b" ∷ tag "a" "b" ∷ tag "a" "a" ∷ [])

pub record DenseTagFaults : Type 0 where
  pub end_less : three_with (hex "52 02  00 00") refused_at 48 for KeysVals
  pub end_more : three_with (hex "52 04  00 00 00 00") refused_at 48 for KeysVals
  pub no_value : three_with (hex "52 03  00 00 01") refused_at 48 for KeysVals
  pub no_last_end : three_with (hex "52 04  00 00 01 02") refused_at 48 for KeysVals
  pub key_past : three_with (hex "52 05  03 01 00  00  00") refused_at 65 for StringIndex
  pub value_past : three_with (hex "52 05  01 03 00  00  00") refused_at 65 for StringIndex
  pub key_below :
      three_with (hex "52 0e  ff ff ff ff ff ff ff ff ff 01 01 00  00  00")
      refused_at 65 for StringIndex

-- ---- keys and vals

-- a way with these fields beside its id, which begin at byte 52
abbrev pub way_with : List ℕ → List ℕ
way_with fields = with_block (ab ++ field "12" (field "1a" (hex "08 07" ++ fields)))

abbrev pub way_7 : List TagSpec → List Decoded
way_7 tags = way_through (pos 7) bare tags [] [] ∷ []

pub record KeysAndVals : Type 0 where
  pub none : way_with [] means way_7 []
  pub one : way_with (hex "12 01 01  1a 01 02") means way_7 (tag "a" "b" ∷ [])
  pub unpacked : way_with (hex "10 01  18 02") means way_7 (tag "a" "b" ∷ [])
  pub in_pieces :
      way_with (hex "12 01 01  18 02  10 02  1a 01 01") means way_7 (tag "a" "b" ∷ tag "b" "a" ∷ [])
  -- text 0 as key and as value
  pub text_0 : way_with (hex "12 01 00  1a 01 00") means way_7 (tag "" "" ∷ [])
  pub repeated :
      way_with (hex "12 03 01 01 01  1a 03 02 02 01")
      means way_7 (tag "a" "b" ∷ tag "a" "b" ∷ tag "a" "a" ∷ [])
  pub key_past : way_with (hex "12 01 03  1a 01 02") refused_at 52 for StringIndex
  pub value_past : way_with (hex "12 01 01  1a 01 03") refused_at 55 for StringIndex
  pub value_less : way_with (hex "12 02 01 02  1a 01 02") refused_at 48 for TagColumns
  pub no_values : way_with (hex "12 01 01") refused_at 48 for TagColumns

-- of a node and of a relation they are the same fields 2 and 3
abbrev pub node_with : List ℕ → List ℕ
node_with fields = with_block (ab ++ field "12" (field "0a" (hex "08 02  40 02  48 02" ++ fields)))

abbrev pub relation_with : List ℕ → List ℕ
relation_with fields = with_block (ab ++ field "12" (field "22" (hex "08 08" ++ fields)))

pub record KeysOfOthers : Type 0 where
  pub node : node_with (hex "12 01 01  1a 01 02") means one_of (tag "a" "b" ∷ [])
  pub node_key_past : node_with (hex "12 01 03  1a 01 02") refused_at 56 for StringIndex
  pub node_value_past : node_with (hex "12 01 01  1a 01 03") refused_at 59 for StringIndex
  pub node_value_less : node_with (hex "12 01 01") refused_at 48 for TagColumns
  pub relation :
      relation_with (hex "12 01 01  1a 01 02")
      means relation_among (pos 8) bare (tag "a" "b" ∷ []) [] ∷ []
  pub relation_key_past : relation_with (hex "12 01 03  1a 01 02") refused_at 52 for StringIndex
  pub relation_value_past : relation_with (hex "12 01 01  1a 01 03") refused_at 55 for StringIndex
  pub relation_key_less : relation_with (hex "1a 01 02") refused_at 48 for TagColumns

-- ---- texts

-- a way whose tag is the texts 1 and 2 of a table that has these entries
abbrev pub by_table : List ℕ → List ℕ
by_table texts = with_block (field "0a" texts ++ hex "12 0a  1a 08  08 07  12 01 01  1a 01 02")

pub record Texts : Type 0 where
  pub behind :
      with_block (hex "12 0a  1a 08  08 07  12 01 01  1a 01 02" ++ ab)
      means way_7 (tag "a" "b" ∷ [])
  -- the first text need not be empty, and a text may be there twice
  pub first_is_used :
      with_block (hex "0a 03 0a 01 61  12 0a  1a 08  08 07  12 01 00  1a 01 00")
      means way_7 (tag "a" "a" ∷ [])
  pub twice : by_table (hex "0a 01 61  0a 01 62  0a 01 62") means way_7 (tag "b" "b" ∷ [])
  -- a text is any bytes: c3 a9 is a letter in UTF-8, and ff is none
  pub letter :
      by_table (hex "0a 00  0a 02 c3 a9  0a 01 ff") means way_7 ((hex "c3 a9", hex "ff") ∷ [])
  pub empty_table :
      with_block (hex "0a 00  12 0a  1a 08  08 07  12 01 00  1a 01 00")
      refused_at 44 for StringIndex
