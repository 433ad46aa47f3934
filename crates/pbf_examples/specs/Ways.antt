-- Ways. A way has an id, which is an int64, and a delta column of refs: the ids of its nodes, in
-- order.
use Rattle.std.specs.Prelude.{ℕ, ℤ, List, [], ◌∷◌, ◌++◌, pos}
use Rattle.pbf_wire.specs.declared.fault.Reason.TheVariants.{VarintCut, Missing, OutOfRange, LocationColumns}
use Rattle.osm_entity.specs.Entity.{Decoded, LocationSpec, way_through}
use Rattle.pbf_examples.specs.Hex.{hex}
use Rattle.pbf_examples.specs.Reading.{◌means◌, ◌refused_at◌for◌, minus, bare, node, way}
use Rattle.pbf_examples.specs.Frames.{header, data_head}
use Rattle.pbf_examples.specs.Wire.{with_way}
use Rattle.pbf_examples.specs.Blocks.{with_block, one_text}

-- ---- a way and two of its nodes

abbrev pub way_frame : List ℕ
way_frame =
    data_head ++ hex "11  0a 0f"
    ++ hex "0a 02 0a 00"  -- 1 stringtable
    ++ hex "12 09  1a 07"  -- 2 primitivegroup: 3 ways
    ++ hex "08 07"  -- 1 id 7
    ++ hex "42 03  02 02 02"  -- 8 refs 1, +1, +1

abbrev pub nodes_frame : List ℕ
nodes_frame =
    data_head ++ hex "16  0a 14  0a 02 0a 00  12 0e 12 0c  0a 02 02 02  42 02 02 03  4a 02 02 00"

-- way 7 through nodes 1, 2 and 3, of which node 3 is absent
abbrev pub way_and_nodes : List ℕ
way_and_nodes = header ++ way_frame ++ nodes_frame

abbrev pub refs_123 : List ℤ
refs_123 = pos 1 ∷ pos 2 ∷ pos 3 ∷ []

abbrev pub nodes_1_and_2 : List Decoded
nodes_1_and_2 = node (pos 1) (pos 100) (pos 100) [] ∷ node (pos 2) (minus 100) (pos 100) [] ∷ []

pub record WayAndNodes : Type 0 where
  pub meaning : way_and_nodes means way (pos 7) refs_123 ∷ nodes_1_and_2

-- ---- refs

-- `with_way` is a header and one Way, whose fields begin at byte 44
pub record Refs : Type 0 where
  pub none : with_way (hex "08 07") means way (pos 7) [] ∷ []
  pub in_pieces : with_way (hex "42 01 02  08 07  42 02 02 02") means way (pos 7) refs_123 ∷ []
  pub unpacked : with_way (hex "08 07  40 02  40 02  40 02") means way (pos 7) refs_123 ∷ []
  -- 5, -8, +0
  pub back :
      with_way (hex "08 07  42 03 0a 0f 00") means way (pos 7) (pos 5 ∷ minus 3 ∷ minus 3 ∷ []) ∷ []
  pub id_twice : with_way (hex "08 09  08 07") means way (pos 7) [] ∷ []
  pub unknown : with_way (hex "08 07  62 01 ff") means way (pos 7) [] ∷ []

-- ---- locations

-- each ref may have its place beside it: 9 lat and 10 lon, delta columns
abbrev pub located_frame : List ℕ
located_frame =
    data_head ++ hex "1b  0a 19"
    ++ hex "0a 02 0a 00  12 13  1a 11"
    ++ hex "08 07"
    ++ hex "42 03  02 02 02"
    ++ hex "4a 03  02 03 04"  -- 9 lat 1, -2, +2
    ++ hex "52 03  02 00 00"  -- 10 lon 1, +0, +0

abbrev pub located : List LocationSpec → List Decoded
located locations = way_through (pos 7) bare [] refs_123 locations ∷ []

-- latitude and longitude in nanodegrees, of each of the three refs
abbrev pub places : List LocationSpec
places = (pos 100, pos 100) ∷ (minus 100, pos 100) ∷ (pos 100, pos 100) ∷ []

pub record Locations : Type 0 where
  pub meaning : header ++ located_frame ++ nodes_frame means located places ++ nodes_1_and_2
  pub in_pieces :
      with_way (hex "52 01 02  48 02  4a 02 03 04  08 07  42 03 02 02 02  50 00  52 01 00")
      means located places
  -- an empty column is none
  pub empty : with_way (hex "08 07  42 01 02  4a 00") means way (pos 7) (pos 1 ∷ []) ∷ []
  -- by the scale of the block: granularity 1000, offsets 100 and -300
  pub scaled :
      with_block (one_text ++ hex "12 0e  1a 0c  08 07  42 01 02  4a 01 14  52 02 bc 05"
      ++ hex "88 01 e8 07  98 01 64  a0 01 d4 fd ff ff ff ff ff ff ff 01")
      means way_through (pos 7) bare [] (pos 1 ∷ []) ((pos 10_100, pos 349_700) ∷ []) ∷ []

-- ---- faults

pub record WayFaults : Type 0 where
  pub longitude_less :
      with_way (hex "08 07  42 03 02 02 02  4a 03 02 03 04  52 02 02 00")
      refused_at 42 for LocationColumns
  pub no_longitudes :
      with_way (hex "08 07  42 03 02 02 02  4a 03 02 03 04") refused_at 42 for LocationColumns
  pub no_id : with_way (hex "42 01 02") refused_at 42 for Missing 1
  pub ref_cut : with_way (hex "08 07  42 02 02 82") refused_at 46 for VarintCut
  -- 2^62 - 1 and +1
  pub ref_over :
      with_way (hex "08 07  42 0a fe ff ff ff ff ff ff ff 7f 02") refused_at 46 for OutOfRange
  pub location_over :
      with_way (hex "08 07  42 01 02  4a 0a 80 80 80 80 80 80 80 80 80 01  52 01 02")
      refused_at 49 for OutOfRange
  -- an id of 2^62, which an int64 has in nine bytes
  pub id_over : with_way (hex "08 80 80 80 80 80 80 80 80 40") refused_at 44 for OutOfRange
