-- The written form. A conversion writes all entities, and an extract those that are kept:
-- shortest numbers, fields in ascending order, columns packed, what equals the default left out.
-- A block has entities of one kind and one scale, and nodes of one set of metadata fields.
use Rattle.std.specs.Prelude.{ℕ, List, ◌++◌, codes}
use Rattle.pbf_examples.specs.Hex.{hex}
use Rattle.pbf_examples.specs.Reading.{◌cut_by◌gives◌, ◌converts_to◌, box}
use Rattle.pbf_examples.specs.Frames.{header, three_nodes, data_head, data_frame, field}
use Rattle.pbf_examples.specs.Headers.{written_header, converted_header}
use Rattle.pbf_examples.specs.Wire.{plain_node, with_node}
use Rattle.pbf_examples.specs.Blocks.{with_block, one_text, dense_1, scaled}
use Rattle.pbf_examples.specs.Nodes.{with_dense}
use Rattle.pbf_examples.specs.Tags.{tagged}
use Rattle.pbf_examples.specs.Metadata.{stop}
use Rattle.pbf_examples.specs.Ways.{way_and_nodes, way_frame, nodes_frame}

-- ---- nodes

-- a frame of the three nodes
abbrev pub three_frame : List ℕ
three_frame =
    data_head
    ++ hex "19  0a 17  0a 02 0a 00  12 11 12 0f  0a 03 14 02 08  42 03 02 03 04  4a 03 02 00 00"

-- a plain node is written as dense nodes are
abbrev pub ten_frame : List ℕ
ten_frame = data_head ++ hex "13  0a 11  0a 02 0a 00  12 0b 12 09  0a 01 14  42 01 02  4a 01 02"

pub record WrittenNodes : Type 0 where
  pub dense : three_nodes converts_to converted_header ++ three_frame
  pub again : converted_header ++ three_frame converts_to converted_header ++ three_frame
  pub in_pieces :
      with_dense (hex "08 14  0a 02 02 08  48 02  42 03 02 03 04  48 00  48 00")
      converts_to converted_header ++ three_frame
  pub plain : plain_node converts_to converted_header ++ ten_frame
  pub longer :
      with_node (hex "48 02  40 82 00  78 05  88 00 94 00")
      converts_to converted_header ++ ten_frame
  pub cut_of_pieces :
      with_dense (hex "0a 01 14  0a 01 02  08 08  42 03 02 03 04  4a 03 02 00 00")
      cut_by box
      gives written_header ++ data_head
      ++ hex "16  0a 14  0a 02 0a 00  12 0e 12 0c  0a 02 14 0a  42 02 02 00  4a 02 02 00"

-- ---- texts and metadata

-- the table has the empty text, which no entity uses, and then the texts in order of use
abbrev pub tagged_frame : List ℕ
tagged_frame =
    data_head ++ hex "1d  0a 1b  0a 07  0a 00  0a 00  0a 01 61"
    ++ hex "12 10 12 0e  0a 01 02  42 01 02  4a 01 02  52 03  01 02 00"

-- "highway", "stop", "ann": tags, then the user
abbrev pub stop_frame : List ℕ
stop_frame =
    data_head ++ hex "3b  0a 39  0a 16  0a 00  0a 07" ++ codes "highway" ++ hex "0a 04"
    ++ codes "stop" ++ hex "0a 03" ++ codes "ann"
    ++ hex "12 1f 12 1d  0a 01 02  2a 0d  0a 01 02  12 05 a4 8b b0 99 09  2a 01 06"
    ++ hex "42 01 02  4a 01 02  52 03 01 02 00"

pub record WrittenTexts : Type 0 where
  pub tagged_cut : tagged cut_by box gives written_header ++ tagged_frame
  pub tagged_again : written_header ++ tagged_frame cut_by box gives written_header ++ tagged_frame
  pub tagged_converted : tagged converts_to converted_header ++ tagged_frame
  pub tagged_converted_again :
      converted_header ++ tagged_frame converts_to converted_header ++ tagged_frame
  pub stop_converted : stop converts_to converted_header ++ stop_frame
  -- version -1, in ten bytes
  pub version_below :
      with_dense (hex "0a 01 02  2a 07 0a 05 ff ff ff ff 0f  42 01 02  4a 01 02")
      converts_to converted_header
      ++ data_frame (one_text
      ++ hex "12 19 12 17  0a 01 02  2a 0c 0a 0a ff ff ff ff ff ff ff ff ff 01"
      ++ hex "42 01 02  4a 01 02")
  -- visible is 0 or 1; an Info without fields is none
  pub visible :
      with_block (one_text ++ hex "12 0c  1a 0a  08 07  22 06 30 80 80 80 80 10")
      converts_to converted_header
      ++ data_frame (one_text ++ hex "12 08  1a 06  08 07  22 02 30 01")
  pub no_info :
      with_block (one_text ++ hex "12 06  1a 04  08 07  22 00")
      converts_to converted_header ++ data_frame (one_text ++ hex "12 04  1a 02  08 07")

-- ---- every field

-- the texts in order of use: the tag, then the user, then the role
abbrev pub used_texts : List ℕ
used_texts =
    hex "0a 11  0a 00  0a 01 61  0a 01 62" ++ hex "0a 03" ++ codes "ann" ++ hex "0a 02"
    ++ codes "to"

-- the same without the role
abbrev pub tag_and_user : List ℕ
tag_and_user = hex "0a 0d  0a 00  0a 01 61  0a 01 62" ++ hex "0a 03" ++ codes "ann"

-- a way and a relation whose fields, and those of their Info, are read in descending order
abbrev pub way_read : List ℕ
way_read =
    hex "52 03 02 00 00  4a 03 02 03 04  42 03 02 02 02"
    ++ hex "22 0d  30 01 28 03 20 0c 18 4d 10 e8 07 08 03" ++ hex "1a 01 02  12 01 01  08 07"

abbrev pub way_written : List ℕ
way_written =
    hex "08 07  12 01 01  1a 01 02" ++ hex "22 0d  08 03 10 e8 07 18 4d 20 0c 28 03 30 01"
    ++ hex "42 03 02 02 02  4a 03 02 03 04  52 03 02 00 00"

abbrev pub relation_read : List ℕ
relation_read =
    hex "52 01 00  4a 01 02  42 01 04" ++ hex "22 0d  30 01 28 03 20 0c 18 4d 10 e8 07 08 03"
    ++ hex "1a 01 02  12 01 01  08 08"

abbrev pub relation_written : List ℕ
relation_written =
    hex "08 08  12 01 01  1a 01 02" ++ hex "22 0d  08 03 10 e8 07 18 4d 20 0c 28 03 30 01"
    ++ hex "42 01 04  4a 01 02  52 01 00"

-- and two nodes
abbrev pub nodes_read : List ℕ
nodes_read =
    hex "52 04 01 02 00 00  4a 02 02 00  42 02 02 00"
    ++ field "2a" (hex "32 02 01 00  2a 02 06 05  22 02 18 17  1a 03 9a 01 02"
    ++ hex "12 03 d0 0f 01  0a 02 03 03")
    ++ hex "0a 02 02 02"

abbrev pub nodes_written : List ℕ
nodes_written =
    hex "0a 02 02 02"
    ++ field "2a" (hex "0a 02 03 03  12 03 d0 0f 01  1a 03 9a 01 02"
    ++ hex "22 02 18 17  2a 02 06 02  32 02 01 00")
    ++ hex "42 02 02 00  4a 02 02 00  52 04 01 02 00 00"

pub record WrittenEntities : Type 0 where
  pub way :
      with_block (used_texts ++ field "12" (field "1a" way_read))
      converts_to converted_header
      ++ data_frame (tag_and_user ++ field "12" (field "1a" way_written))
  pub relation :
      with_block (used_texts ++ field "12" (field "22" relation_read))
      converts_to converted_header
      ++ data_frame (used_texts ++ field "12" (field "22" relation_written))
  -- the second user is text 0, empty, which gets an entry of its own
  pub nodes :
      with_block (used_texts ++ field "12" (field "12" nodes_read))
      converts_to converted_header
      ++ data_frame (hex "0a 0f  0a 00  0a 01 61  0a 01 62" ++ hex "0a 03" ++ codes "ann"
      ++ hex "0a 00" ++ field "12" (field "12" nodes_written))
  -- the scale
  pub scale :
      with_block (hex "a0 01 05  98 01 07  90 01 01  88 01 e8 07" ++ one_text ++ dense_1)
      converts_to converted_header
      ++ data_frame (one_text ++ dense_1 ++ hex "88 01 e8 07  90 01 01  98 01 07  a0 01 05")

-- ---- blocks

-- node 1 with a version, which comes after the place where it is read; and node 2 without
abbrev pub version_read : List ℕ
version_read =
    data_frame (one_text ++ hex "12 10 12 0e  0a 01 02  42 01 02  4a 01 02  2a 03 0a 01 01")

abbrev pub with_version : List ℕ
with_version =
    data_frame (one_text ++ hex "12 10 12 0e  0a 01 02  2a 03 0a 01 01  42 01 02  4a 01 02")

abbrev pub without_version : List ℕ
without_version = data_frame (one_text ++ hex "12 0b 12 09  0a 01 04  42 01 02  4a 01 02")

abbrev pub two_with_version : List ℕ
two_with_version =
    data_frame (one_text
    ++ hex "12 14 12 12  0a 02 02 00  2a 04 0a 02 01 01  42 02 02 00  4a 02 02 00")

pub record WrittenBlocks : Type 0 where
  pub no_entity : with_block one_text converts_to converted_header
  pub ways_and_nodes : way_and_nodes converts_to converted_header ++ way_frame ++ nodes_frame
  pub ways_and_nodes_again :
      converted_header ++ way_frame ++ nodes_frame
      converts_to converted_header ++ way_frame ++ nodes_frame
  -- blocks of one scale are joined, and those of two are not
  pub joined :
      header ++ data_frame (one_text ++ dense_1) ++ data_frame (one_text ++ dense_1)
      converts_to converted_header
      ++ data_frame (one_text ++ hex "12 0e 12 0c  0a 02 02 00  42 02 02 00  4a 02 02 00")
  pub scales :
      header ++ data_frame (one_text ++ dense_1)
      ++ data_frame (one_text ++ dense_1 ++ hex "88 01 e8 07")
      converts_to converted_header ++ data_frame (one_text ++ dense_1)
      ++ data_frame (one_text ++ dense_1 ++ hex "88 01 e8 07")
  -- 2^32 + 100 is 100
  pub high_bits :
      scaled (hex "88 01 e4 80 80 80 10")
      converts_to converted_header ++ data_frame (one_text ++ dense_1)
  -- a scale that is spelled out and is the default is left out
  pub default_scale :
      with_block (hex "88 01 64  90 01 e8 07  98 01 00  a0 01 00" ++ one_text ++ dense_1)
      converts_to converted_header ++ data_frame (one_text ++ dense_1)
  pub presence :
      header ++ version_read ++ without_version ++ version_read ++ version_read
      converts_to converted_header ++ with_version ++ without_version ++ two_with_version
  -- three kinds in one block are three blocks
  pub kinds :
      with_block (one_text ++ hex "12 04 22 02 08 08" ++ hex "12 04 1a 02 08 07" ++ dense_1)
      converts_to converted_header ++ data_frame (one_text ++ hex "12 04 22 02 08 08")
      ++ data_frame (one_text ++ hex "12 04 1a 02 08 07") ++ data_frame (one_text ++ dense_1)
