-- Extracts. A node is in the box where its place is, edges included. A way is kept if a node
-- of it is in the box, and then all its nodes are. A relation is kept if a node or a way
-- among its members is; with all parents also if a relation among them is.
--
-- The box of most lines is one degree by one degree, from where the equator meets the prime
-- meridian.
use Prim.Native.String.{String}
use Rattle.std.specs.Prelude.{◌≡◌, ℕ, List, [], ◌∷◌, ◌++◌, pos, codes, Ok, Err}
use Rattle.osm_box.specs.declared.bounding_box.BoundingBox.{BoundingBox}
use Rattle.osm_box.specs.declared.bounding_box.BoxFault.TheVariants.{Shape, Digit, Range, LeftOverRight, BottomOverTop}
use Rattle.osm_box.specs.Degrees.{box_of_text}
use Rattle.pbf_examples.specs.Hex.{hex}
use Rattle.pbf_examples.specs.Reading.{◌means◌, ◌cut_by◌gives◌, ◌cut_with_parents_by◌gives◌, minus, node, box}
use Rattle.pbf_examples.specs.Frames.{header, three_nodes, node_1, data_head, data_frame, header_frame, field}
use Rattle.pbf_examples.specs.Headers.{written_header}
use Rattle.pbf_examples.specs.Blocks.{one_text, ab}
use Rattle.pbf_examples.specs.Ways.{way_and_nodes, way_frame, nodes_frame, located_frame}

-- ---- boxes

-- left, bottom, right and top in degrees, as nanodegrees
pub record Boxes : Type 0 where
  pub london :
      box_of_text (codes "-0.5,51.25,0.3,51.7")
      ≡ Ok (record {
        left = minus 500_000_000;
        bottom = pos 51_250_000_000;
        right = pos 300_000_000;
        top = pos 51_700_000_000;
      })
  pub whole : box_of_text (codes "0,0,1,1") ≡ Ok box
  pub shape : box_of_text (codes "0,0,1") ≡ Err Shape
  pub digit : box_of_text (codes "0,0,1.,1") ≡ Err Digit
  pub range : box_of_text (codes "0,0,181,1") ≡ Err Range
  pub left : box_of_text (codes "2,0,1,1") ≡ Err LeftOverRight
  pub bottom : box_of_text (codes "0,2,1,1") ≡ Err BottomOverTop

-- ---- nodes

-- of three nodes the middle one lies south of the equator
abbrev pub two_nodes : List ℕ
two_nodes =
    written_header
    ++ data_head ++ hex "16  0a 14  0a 02 0a 00  12 0e 12 0c"
    ++ hex "0a 02  14 0a"  -- ids 10 and +5
    ++ hex "42 02  02 00" ++ hex "4a 02  02 00"

pub record NodeExtract : Type 0 where
  pub extract : three_nodes cut_by box gives two_nodes
  pub meaning :
      two_nodes
      means node (pos 10) (pos 100) (pos 100) [] ∷ node (pos 15) (pos 100) (pos 100) [] ∷ []
  pub again : two_nodes cut_by box gives two_nodes

-- node 1 at this latitude and longitude, each spelled as its column, in a block with two texts that
-- no entity uses; and as it is written
abbrev pub placed : List ℕ → String → String → List ℕ
placed table lat lon =
    data_frame (table ++ field "12" (field "12" (hex "0a 01 02" ++ field "42" (hex lat)
    ++ field "4a" (hex lon))))

abbrev pub at : String → String → List ℕ
at lat lon = header ++ placed ab lat lon

abbrev pub written_at : String → String → List ℕ
written_at lat lon = written_header ++ placed one_text lat lon

-- 1 degree is 10,000,000 times the granularity: 80 da c4 09
pub record Edges : Type 0 where
  pub left_bottom : at "00" "00" cut_by box gives written_at "00" "00"
  pub right : at "00" "80 da c4 09" cut_by box gives written_at "00" "80 da c4 09"
  pub top : at "80 da c4 09" "00" cut_by box gives written_at "80 da c4 09" "00"
  pub before_left : at "00" "01" cut_by box gives written_header
  pub below_bottom : at "01" "00" cut_by box gives written_header
  pub past_right : at "00" "82 da c4 09" cut_by box gives written_header
  pub past_top : at "82 da c4 09" "00" cut_by box gives written_header

-- the place counts in nanodegrees, by the scale of its block: stored 1 at granularity 1000, offsets
-- of -1, or -2 for the latitude
abbrev pub fine_box : BoundingBox
fine_box =
    record { left = pos 999; bottom = pos 999; right = pos 1_000_000_000; top = pos 1_000_000_000 }

abbrev pub fine_header : List ℕ
fine_header =
    header_frame (hex "0a 12  08 ce 0f  10 80 a8 d6 b9 07  18 80 a8 d6 b9 07  20 ce 0f"
    ++ hex "22 0e" ++ codes "OsmSchema-V0.6" ++ hex "22 0a" ++ codes "DenseNodes"
    ++ hex "82 01 06" ++ codes "pbfcut")

abbrev pub fine_node : String → List ℕ
fine_node lat_offset =
    data_frame (one_text ++ hex "12 0b 12 09 0a 01 02 42 01 02 4a 01 02"
    ++ hex "88 01 e8 07" ++ hex "98 01" ++ hex lat_offset
    ++ hex "a0 01 ff ff ff ff ff ff ff ff ff 01")

pub record FineEdges : Type 0 where
  pub box_is : box_of_text (codes "0.000000999,0.000000999,1,1") ≡ Ok fine_box
  pub kept :
      header ++ fine_node "ff ff ff ff ff ff ff ff ff 01"
      cut_by fine_box gives fine_header ++ fine_node "ff ff ff ff ff ff ff ff ff 01"
  pub dropped :
      header ++ fine_node "fe ff ff ff ff ff ff ff ff 01" cut_by fine_box gives fine_header

-- ids of 1 - 2^62, 0 and 2^62 - 1, the middle one outside: what is added to the first is 2^63 - 2
abbrev pub far_apart : List ℕ
far_apart =
    header
    ++ data_frame (one_text ++ field "12" (field "12" (
    hex "0a 1b  fd ff ff ff ff ff ff ff 7f" ++ hex "fe ff ff ff ff ff ff ff 7f"
    ++ hex "fe ff ff ff ff ff ff ff 7f" ++ hex "42 03 02 03 04  4a 03 02 00 00")))

abbrev pub far_apart_cut : List ℕ
far_apart_cut =
    written_header
    ++ data_frame (one_text ++ field "12" (field "12" (
    hex "0a 13  fd ff ff ff ff ff ff ff 7f  fc ff ff ff ff ff ff ff ff 01"
    ++ hex "42 02 02 00  4a 02 02 00")))

pub record FarApart : Type 0 where
  pub extract : far_apart cut_by box gives far_apart_cut

-- ---- ways

-- two nodes of id 1, of which one is in the box, and two ways of id 7, through 1 and through 2
abbrev pub same_ids : List ℕ
same_ids =
    data_frame (one_text ++ field "12" (field "12" (hex "0a 02 02 00  42 02 02 03  4a 02 02 00")))

abbrev pub way_through_1 : List ℕ
way_through_1 = hex "1a 05  08 07  42 01 02"

abbrev pub way_6 : List ℕ
way_6 = hex "1a 05  08 06  42 01 04"

abbrev pub way_through_2 : List ℕ
way_through_2 = hex "1a 05  08 07  42 01 04"

pub record WayExtracts : Type 0 where
  -- a way before its nodes; node 2 is outside, and node 3 is absent
  pub whole : way_and_nodes cut_by box gives written_header ++ way_frame ++ nodes_frame
  pub again :
      written_header ++ way_frame ++ nodes_frame
      cut_by box gives written_header ++ way_frame ++ nodes_frame
  pub located :
      header ++ located_frame ++ nodes_frame
      cut_by box gives written_header ++ located_frame ++ nodes_frame
  -- a way through only node 2, which is outside
  pub outside :
      header ++ data_frame (one_text ++ field "12" way_6) ++ nodes_frame
      cut_by box gives written_header ++ node_1
  -- each of two nodes with one id is kept, and of two ways with one id the one that has the node
  pub same_id :
      header ++ same_ids ++ data_frame (one_text ++ field "12" (way_through_1 ++ way_through_2))
      cut_by box
      gives written_header ++ same_ids ++ data_frame (one_text ++ field "12" way_through_1)

-- ---- relations

-- a relation with one member: its id, the place of the role in the table, the member's id as its
-- zigzag, and the kind
abbrev pub with_member : String → String → String → String → List ℕ
with_member id role member kind =
    hex "22 0b  08" ++ hex id ++ hex "42 01" ++ hex role ++ hex "4a 01" ++ hex member
    ++ hex "52 01" ++ hex kind

-- member node 1, and a member that is a relation
abbrev pub of_node : String → String → List ℕ
of_node id role = with_member id role "02" "00"

abbrev pub of_relation : String → String → String → List ℕ
of_relation id member role = with_member id role member "02"

-- after node 1, as they are read: a role is text 0
abbrev pub read : List ℕ → List ℕ
read relations = header ++ node_1 ++ data_frame (one_text ++ field "12" relations)

-- and as they are written: a text in use has an entry after text 0, so a role is text 1
abbrev pub written : List ℕ → List ℕ
written relations =
    written_header ++ node_1 ++ data_frame (hex "0a 04 0a 00 0a 00" ++ field "12" relations)

-- relation 8 has node 1, relation 9 has relation 8
abbrev pub both_read : List ℕ
both_read = read (of_node "08" "00" ++ of_relation "09" "10" "00")

abbrev pub both_written : List ℕ
both_written = written (of_node "08" "01" ++ of_relation "09" "10" "01")

-- 10 has 9, which has 8, which has node 1; 11 and 12 have one another, and 13 has itself
abbrev pub chain_and_rings : List ℕ
chain_and_rings =
    read (of_relation "0a" "12" "00" ++ of_relation "09" "10" "00" ++ of_node "08" "00"
    ++ of_relation "0b" "18" "00" ++ of_relation "0c" "16" "00" ++ of_relation "0d" "1a" "00")

abbrev pub chain_written : List ℕ
chain_written =
    written (of_relation "0a" "12" "01" ++ of_relation "09" "10" "01" ++ of_node "08" "01")

-- two relations of id 8, of which the second has node 2, which is absent
abbrev pub same_id_read : List ℕ
same_id_read =
    read (of_node "08" "00" ++ hex "22 0b  08 08  42 01 00  4a 01 04  52 01 00"
    ++ of_relation "09" "10" "00")

-- way 7 has nodes 1, 2 and 3; relation 8 has way 7, 9 has node 2, and 10 node 3, which is absent
abbrev pub around_the_way : String → List ℕ
around_the_way role =
    with_member "08" role "0e" "01" ++ with_member "09" role "04" "00"
    ++ with_member "0a" role "06" "00"

-- 11 has node 4 and 12 way 6, which are nowhere, and 13 way 1, while only a node has this number
abbrev pub beside_the_way : List ℕ
beside_the_way =
    with_member "0b" "00" "08" "00" ++ with_member "0c" "00" "0c" "01"
    ++ with_member "0d" "00" "02" "01"

abbrev pub relations_first : List ℕ
relations_first =
    header ++ data_frame (one_text ++ field "12" (around_the_way "00" ++ beside_the_way))
    ++ way_frame ++ nodes_frame

abbrev pub relations_first_cut : List ℕ
relations_first_cut =
    written_header
    ++ data_frame (hex "0a 04 0a 00 0a 00" ++ field "12" (around_the_way "01"))
    ++ way_frame ++ nodes_frame

pub record RelationExtracts : Type 0 where
  pub without : both_read cut_by box gives written (of_node "08" "01")
  pub parents : both_read cut_with_parents_by box gives both_written
  pub again : both_written cut_with_parents_by box gives both_written
  pub chain : chain_and_rings cut_with_parents_by box gives chain_written
  pub same_id : same_id_read cut_with_parents_by box gives both_written
  pub of_ways : relations_first cut_by box gives relations_first_cut
