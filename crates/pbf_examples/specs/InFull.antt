-- All at once: a block that spells each of its entities oddly, and a way and a relation that have all
-- that they may have.
use Rattle.std.specs.Prelude.{◌≡◌, ℕ, ℤ, List, [], ◌∷◌, ◌++◌, pos, Some, Bool, true, false, codes, map}
use Rattle.osm_entity.specs.declared.member.MemberKind.TheVariants as kind
use Rattle.osm_entity.specs.Entity.{MetaSpec, MemberSpec, node_at, way_through, relation_among}
use Rattle.osm_entity.specs.Weight.{entity_weight}
use Rattle.pbf_pass.specs.Counting.{stored_entities}
use Rattle.pbfcut.specs.Kept.{verdict_on}
use Rattle.pbf_examples.specs.Hex.{hex}
use Rattle.pbf_examples.specs.Reading.{◌means◌, ◌converts_to◌, minus, tag, bare, node, way}
use Rattle.pbf_examples.specs.Frames.{header, data_frame, field}
use Rattle.pbf_examples.specs.Headers.{converted_header}
use Rattle.pbf_examples.specs.Blocks.{with_block, one_text}

-- ---- a block

-- 1 stringtable: "", "highway", "stop", "ann" and "x"
abbrev pub odd_texts : List ℕ
odd_texts =
    hex "0a 00" ++ hex "0a 07" ++ codes "highway" ++ hex "0a 04" ++ codes "stop" ++ hex "0a 03"
    ++ codes "ann" ++ hex "0a 01" ++ codes "x"

-- a Node whose id, Info and longitude come twice, with fields that aren't known. Of numbers of texts,
-- versions and uids the low 32 bits count
abbrev pub odd_node : List ℕ
odd_node =
    hex "18 02  08 9a 01  10 01  40 15"  -- a value, an id, a key, and the latitude -11
    ++ field "22" (hex "08 81 80 80 80 10  30 00  10 f9 ff ff ff ff ff ff ff ff 01  18 09"
    ++ hex "20 fe ff ff ff 0f  28 83 80 80 80 10  30 80 80 80 80 10")
    ++ hex "48 08  12 05 84 80 80 80 10"  -- a longitude, and a key
    ++ hex "f2 01 02 01 02"  -- field 30
    ++ hex "08 0a  1a 01 03  48 18"  -- the id 5, a value, and the longitude 12

-- of nobody, as its Info is empty
abbrev pub node_of_nobody : List ℕ
node_of_nobody = hex "48 00  40 02  08 05  22 00"

-- a Way whose columns come in pieces, packed and single
abbrev pub odd_way : List ℕ
odd_way =
    hex "4a 02 0a 0b  40 c8 01  08 f7 ff ff ff ff ff ff ff ff 01  42 02 02 05  52 01 10"
    ++ hex "22 04 30 00 20 07" ++ hex "12 01 01  48 04  1a 01 02  52 02 01 01"

-- a Relation, likewise
abbrev pub odd_relation : List ℕ
odd_relation =
    hex "52 06 02 81 80 80 80 10  42 01 03  08 0c  4a 02 3c 31  50 00"
    ++ hex "42 06 00 84 80 80 80 10  48 04"

-- a group before the table, one without a field, and the scale between them; the granularity
-- comes twice, and is 2^32 + 250 at last. The payload has 250 bytes, and its blob 253: fa 01, fd 01
abbrev pub odd_block : List ℕ
odd_block =
    header
    ++ hex "00 00 00 0c" ++ hex "0a 07" ++ codes "OSMData" ++ hex "18 fd 01" ++ hex "0a fa 01"
    ++ field "12" (field "0a" odd_node ++ field "0a" node_of_nobody)
    ++ hex "88 01 e8 07" ++ field "0a" odd_texts
    ++ field "12" (field "1a" odd_way ++ field "1a" (hex "08 0a"))
    ++ hex "98 01 98 f8 ff ff ff ff ff ff ff 01" ++ field "12" []
    ++ field "12" (field "12" (hex "0a 02 28 02  42 02 06 08  4a 02 05 07  52 04 01 02 00 00"))
    ++ hex "90 01 f4 03  a0 01 46  88 01 fa 81 80 80 10" ++ field "12" (field "22" odd_relation)

abbrev pub of_ann_in_full : MetaSpec
of_ann_in_full =
    record {
      version = Some (pos 1);
      timestamp = Some (minus 3500);
      changeset = Some (pos 9);
      uid = Some (minus 2);
      user = Some (codes "ann");
      visible = Some true;
    }

abbrev pub highway_stop : List (List ℕ × List ℕ)
highway_stop = tag "highway" "stop" ∷ []

abbrev pub three_members : List MemberSpec
three_members =
    record { kind = kind.Relation; id = pos 30; role = codes "ann" }
    ∷ record { kind = kind.Way; id = pos 5; role = [] }
    ∷ record { kind = kind.Node; id = pos 7; role = codes "x" } ∷ []

pub record OddBlock : Type 0 where
  -- a latitude is -1000 + 250 times the stored one, a longitude 70 + 250 times, a time 500 times
  pub meaning :
      odd_block
      means node_at (pos 5) (minus 3750) (pos 3070) of_ann_in_full (tag "highway" "stop" ∷ tag "x" "ann" ∷ [])
      ∷ node (minus 3) (minus 750) (pos 70) []
      ∷ way_through (minus 9) (record bare { uid = Some (pos 7); visible = Some false }) highway_stop
      (pos 100 ∷ pos 101 ∷ pos 98 ∷ [])
      ((pos 250, pos 2070) ∷ (minus 1250, pos 1820) ∷ (minus 750, pos 1570) ∷ [])
      ∷ way (pos 10) []
      ∷ node (pos 20) (minus 250) (minus 680) highway_stop
      ∷ node (pos 21) (pos 750) (minus 1680) []
      ∷ relation_among (pos 12) bare [] three_members ∷ []
  -- an entity weighs 160, 32 for each tag, ref, location and member, and as much as its texts have
  -- bytes
  pub weights :
      map entity_weight (stored_entities (verdict_on odd_block).0)
      ≡ 242 ∷ 160 ∷ 395 ∷ 160 ∷ 203 ∷ 160 ∷ 260 ∷ []
  -- without an Info, and of no scale: a place counts hundreds of nanodegrees from 0 on
  pub plain :
      with_block (one_text ++ hex "12 08  0a 06  48 00  40 02  08 05")
      means node (minus 3) (pos 100) (pos 0) [] ∷ []

-- ---- what is written in full

-- a negative id and version in ten bytes each, a tag twice, an empty text, all metadata, and locations
-- after the refs
abbrev pub full_way : List ℕ
full_way =
    converted_header
    ++ data_frame (field "0a" (hex "0a 00  0a 01 61  0a 00  0a 01 75")
    ++ field "12" (field "1a" (hex "08 ff ff ff ff ff ff ff ff ff 01  12 03 01 01 02  1a 03 01 01 01"
    ++ hex "22 15  08 ff ff ff ff ff ff ff ff ff 01  10 00  18 02  20 03  28 03  30 00"
    ++ hex "42 02 04 01  4a 02 02 04  52 02 01 00")))

abbrev pub of_u : MetaSpec
of_u =
    record {
      version = Some (minus 1);
      timestamp = Some (pos 0);
      changeset = Some (pos 2);
      uid = Some (pos 3);
      user = Some (codes "u");
      visible = Some false;
    }

-- three members, two of one role; the roles come last in the table
abbrev pub full_relation : List ℕ
full_relation =
    converted_header
    ++ data_frame (field "0a" (hex "0a 00  0a 01 6b  0a 01 76  0a 01 72  0a 00")
    ++ field "12" (field "22" (hex "08 08  12 01 01  1a 01 02  22 02 30 01"
    ++ hex "42 03 03 04 03  4a 03 02 01 0a  52 03 00 01 02")))

-- node 1, which is deleted, of version -1, and node 2, which is visible and has a tag
abbrev pub full_nodes : List ℕ
full_nodes =
    converted_header
    ++ data_frame (field "0a" (hex "0a 00  0a 01 6b")
    ++ field "12" (field "12" (hex "0a 02 02 02"
    ++ field "2a" (hex "0a 0b ff ff ff ff ff ff ff ff ff 01 01" ++ hex "1a 02 08 01  22 02 03 0e  32 02 00 01")
    ++ hex "42 02 01 01  4a 02 00 00  52 04 00 01 01 00")))

abbrev pub of_version : ℤ → ℕ → ℤ → Bool → MetaSpec
of_version version changeset uid visible =
    record bare {
      version = Some version;
      changeset = Some (pos changeset);
      uid = Some uid;
      visible = Some visible;
    }

-- ids as far apart as they can be: 1 - 2^62, and 2^62 - 1
abbrev pub widest_ids : List ℕ
widest_ids =
    converted_header
    ++ data_frame (one_text
    ++ field "12" (field "12" (hex "0a 13  fd ff ff ff ff ff ff ff 7f  fc ff ff ff ff ff ff ff ff 01"
    ++ hex "42 02 00 00  4a 02 00 00")))

pub record WrittenInFull : Type 0 where
  pub nodes_mean :
      full_nodes
      means node_at (pos 1) (minus 100) (pos 0) (of_version (minus 1) 4 (minus 2) false) []
      ∷ node_at (pos 2) (minus 200) (pos 0) (of_version (pos 1) 3 (pos 5) true) (tag "k" "k" ∷ []) ∷ []
  pub nodes_again : full_nodes converts_to full_nodes
  pub widest_mean :
      widest_ids
      means node (minus 4_611_686_018_427_387_903) (pos 0) (pos 0) []
      ∷ node (pos 4_611_686_018_427_387_903) (pos 0) (pos 0) [] ∷ []
  pub widest_again : widest_ids converts_to widest_ids
  pub way_means :
      full_way
      means way_through (minus 1) of_u (tag "a" "a" ∷ tag "a" "a" ∷ tag "" "a" ∷ [])
      (pos 2 ∷ pos 1 ∷ []) ((pos 100, minus 100) ∷ (pos 300, minus 100) ∷ []) ∷ []
  pub way_again : full_way converts_to full_way
  pub relation_means :
      full_relation
      means relation_among (pos 8) (record bare { visible = Some true }) (tag "k" "v" ∷ [])
      (record { kind = kind.Node; id = pos 1; role = codes "r" }
      ∷ record { kind = kind.Way; id = pos 0; role = [] }
      ∷ record { kind = kind.Relation; id = pos 5; role = codes "r" } ∷ []) ∷ []
  pub relation_again : full_relation converts_to full_relation
