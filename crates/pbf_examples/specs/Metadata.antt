-- Metadata. A Node, Way or Relation may have an Info of six fields, and DenseNodes a DenseInfo
-- of six columns. Each field may be there or not by itself; a default is not filled in.
use Rattle.std.specs.Prelude.{ℕ, List, [], ◌∷◌, ◌++◌, pos, Some, None, Bool, true, false, codes}
use Rattle.pbf_wire.specs.declared.fault.Reason.TheVariants.{ColumnLengths, TwiceMessage, StringIndex, OutOfRange}
use Rattle.osm_entity.specs.Entity.{MetaSpec, Decoded, node_at, way_through, relation_among}
use Rattle.pbf_examples.specs.Hex.{hex}
use Rattle.pbf_examples.specs.Reading.{◌means◌, ◌refused_at◌for◌, minus, tag, bare}
use Rattle.pbf_examples.specs.Frames.{header, data_head, field}
use Rattle.pbf_examples.specs.Blocks.{with_block}

-- ---- a node with some of the fields

-- node 1, version 2, 2009-02-13T23:31:30Z, user "ann", highway=stop
abbrev pub stop : List ℕ
stop =
    header
    ++ data_head ++ hex "3b  0a 39"  -- 19  a blob of 59 bytes, a payload of 57
    ++ hex "0a 16"  -- 36  1 stringtable of 22 bytes:
    ++ hex "0a 00"  --     0 ""
    ++ hex "0a 07" ++ codes "highway"  --     1
    ++ hex "0a 04" ++ codes "stop"  --     2
    ++ hex "0a 03" ++ codes "ann"  --     3
    ++ hex "12 1f  12 1d"  -- 60  2 primitivegroup: 2 dense
    ++ hex "0a 01 02"  -- 64  1 id 1
    ++ hex "2a 0d"  -- 67  5 denseinfo of 13 bytes:
    ++ hex "0a 01 02"  --     1 version 2
    ++ hex "12 05 a4 8b b0 99 09"  --     2 timestamp 1234567890, in seconds
    ++ hex "2a 01 06"  --     5 user_sid 3
    ++ hex "42 01 02  4a 01 02"  -- 82  8 lat 1, 9 lon 1
    ++ hex "52 03  01 02 00"  -- 88  10 keys_vals: text 1, text 2, end

abbrev pub of_ann : MetaSpec
of_ann = record bare {
  version = Some (pos 2);
  timestamp = Some (pos 1_234_567_890_000);
  user = Some (codes "ann");
}

pub record Stop : Type 0 where
  pub meaning :
      stop means node_at (pos 1) (pos 100) (pos 100) of_ann (tag "highway" "stop" ∷ []) ∷ []

-- ---- Info

-- the texts "" and "ann"
abbrev pub ann : List ℕ
ann = hex "0a 07  0a 00  0a 03 61 6e 6e"

-- node 1 with these fields as its Info, and after the group these numbers of the scale; the Info's
-- fields begin at byte 57
abbrev pub info_and_scale : List ℕ → List ℕ → List ℕ
info_and_scale info scale =
    with_block (ann ++ field "12" (field "0a" (hex "08 02  40 02  48 02" ++ field "22" info))
    ++ scale)

abbrev pub with_info : List ℕ → List ℕ
with_info info = info_and_scale info []

abbrev pub node_by : MetaSpec → List Decoded
node_by meta = node_at (pos 1) (pos 100) (pos 100) meta [] ∷ []

abbrev pub all_six : MetaSpec
all_six = record {
  version = Some (pos 3);
  timestamp = Some (pos 1_000_000);
  changeset = Some (pos 77);
  uid = Some (pos 12);
  user = Some (codes "ann");
  visible = Some true;
}

abbrev pub every_field : List ℕ
every_field =
    hex "08 03"  -- 1 version 3
    ++ hex "10 e8 07"  -- 2 timestamp 1000
    ++ hex "18 4d"  -- 3 changeset 77
    ++ hex "20 0c"  -- 4 uid 12
    ++ hex "28 01"  -- 5 user_sid: text 1
    ++ hex "30 01"  -- 6 visible

pub record Info : Type 0 where
  pub all : with_info every_field means node_by all_six
  pub reversed : with_info (hex "30 01  28 01  20 0c  18 4d  10 e8 07  08 03") means node_by all_six
  pub none : with_info [] means node_by bare
  pub no_version :
      with_info (hex "10 e8 07  18 4d  20 0c  28 01  30 01")
      means node_by (record all_six { version = None })
  -- a user without a name, of uid 0, and what is deleted: these are there
  pub zeros :
      with_info (hex "20 00  28 00  30 00")
      means node_by (record bare { uid = Some (pos 0); user = Some []; visible = Some false })
  -- a bool is true for every number but 0, as 2^32
  pub visible :
      with_info (hex "30 80 80 80 80 10") means node_by (record bare { visible = Some true })
  -- -1 as an int32: in ten bytes, or its low 32 bits in five
  pub version_below :
      with_info (hex "08 ff ff ff ff ff ff ff ff ff 01")
      means node_by (record bare { version = Some (minus 1) })
  pub version_in_five :
      with_info (hex "08 ff ff ff ff 0f") means node_by (record bare { version = Some (minus 1) })
  pub before_1970 :
      with_info (hex "10 ff ff ff ff ff ff ff ff ff 01")
      means node_by (record bare { timestamp = Some (minus 1_000) })
  pub twice : with_info (hex "08 03  08 04") means node_by (record bare { version = Some (pos 4) })
  -- 18 date_granularity: a time is counted in milliseconds, or in sevens of them
  pub millis :
      info_and_scale (hex "10 e8 07") (hex "90 01 01")
      means node_by (record bare { timestamp = Some (pos 1_000) })
  pub sevens :
      info_and_scale (hex "10 e8 07") (hex "90 01 07")
      means node_by (record bare { timestamp = Some (pos 7_000) })
  -- of a way and of a relation it is the same field 4
  pub of_a_way :
      with_block (ann ++ field "12" (field "1a" (hex "08 07" ++ field "22" every_field)))
      means way_through (pos 7) all_six [] [] [] ∷ []
  pub of_a_relation :
      with_block (ann ++ field "12" (field "22" (hex "08 08" ++ field "22" every_field)))
      means relation_among (pos 8) all_six [] [] ∷ []

pub record InfoFaults : Type 0 where
  pub twice :
      with_block (ann
      ++ field "12" (field "0a" (hex "08 02  40 02  48 02  22 02 08 03  22 02 08 03")))
      refused_at 59 for TwiceMessage
  pub user_past : with_info (hex "28 02") refused_at 57 for StringIndex
  -- 2^62 seconds, changeset 2^62, uid 2^30
  pub late : with_info (hex "10 80 80 80 80 80 80 80 80 40") refused_at 57 for OutOfRange
  pub changeset_over :
      with_info (hex "08 03  18 80 80 80 80 80 80 80 80 40") refused_at 59 for OutOfRange
  pub uid_over : with_info (hex "20 80 80 80 80 04") refused_at 57 for OutOfRange
  pub uid_most :
      with_info (hex "20 ff ff ff ff 03")
      means node_by (record bare { uid = Some (pos 1_073_741_823) })

-- ---- DenseInfo

-- two nodes with these columns as their DenseInfo, which begin at byte 61
abbrev pub with_columns : List ℕ → List ℕ
with_columns info =
    with_block (ann
    ++ field "12" (field "12" (hex "0a 02 02 02  42 02 02 00" ++ field "2a" info
    ++ hex "4a 02 02 00")))

abbrev pub nodes_by : MetaSpec → MetaSpec → List Decoded
nodes_by first second =
    node_at (pos 1) (pos 100) (pos 100) first [] ∷ node_at (pos 2) (pos 100) (pos 100) second []
    ∷ []

-- time, changeset, uid and user are delta columns, version and visible are none
abbrev pub every_column : List ℕ
every_column =
    hex "0a 02  03 03"  -- 1 version 3, 3
    ++ hex "12 03  d0 0f 01"  -- 2 timestamp 1000, -1
    ++ hex "1a 03  9a 01 02"  -- 3 changeset 77, +1
    ++ hex "22 02  18 17"  -- 4 uid 12, -12
    ++ hex "2a 02  02 01"  -- 5 user_sid 1, -1
    ++ hex "32 02  01 00"  -- 6 visible, and not

abbrev pub second_of_all : MetaSpec
second_of_all = record {
  version = Some (pos 3);
  timestamp = Some (pos 999_000);
  changeset = Some (pos 78);
  uid = Some (pos 0);
  user = Some [];
  visible = Some false;
}

abbrev pub of_version : ℕ → MetaSpec
of_version n = record bare { version = Some (pos n) }

abbrev pub of_uid : ℕ → MetaSpec
of_uid n = record bare { uid = Some (pos n) }

abbrev pub of_visible : Bool → MetaSpec
of_visible b = record bare { visible = Some b }

pub record DenseInfo : Type 0 where
  pub all : with_columns every_column means nodes_by all_six second_of_all
  pub none : with_columns [] means nodes_by bare bare
  pub empty_column :
      with_columns (hex "0a 00  32 02 01 00") means nodes_by (of_visible true) (of_visible false)
  pub version_alone : with_columns (hex "08 02  08 01") means nodes_by (of_version 2) (of_version 1)
  -- a sint32 is the zigzag of the low 32 bits: 2^32 + 24, and -12
  pub uid_high_bits :
      with_columns (hex "22 06 98 80 80 80 10 17") means nodes_by (of_uid 12) (of_uid 0)
  -- the sum 2^30 - 1
  pub uid_most :
      with_columns (hex "22 06 00 fe ff ff ff 07") means nodes_by (of_uid 0) (of_uid 1_073_741_823)

pub record DenseInfoFaults : Type 0 where
  pub version_less : with_columns (hex "0a 01 03") refused_at 57 for ColumnLengths
  pub time_more : with_columns (hex "12 03 02 00 00") refused_at 57 for ColumnLengths
  pub twice :
      with_block (ann ++ field "12" (field "12" (hex "0a 01 02  42 01 02  4a 01 02  2a 00  2a 00")))
      refused_at 60 for TwiceMessage
  pub user_past : with_columns (hex "2a 02 02 02") refused_at 59 for StringIndex
  pub user_below : with_columns (hex "2a 02 00 01") refused_at 59 for StringIndex
  pub uid_over : with_columns (hex "22 06 02 fe ff ff ff 07") refused_at 59 for OutOfRange
  -- 2^62 - 1 and +1
  pub time_over :
      with_columns (hex "12 0a fe ff ff ff ff ff ff ff 7f 02") refused_at 59 for OutOfRange
  pub changeset_over :
      with_columns (hex "1a 0a fe ff ff ff ff ff ff ff 7f 02") refused_at 59 for OutOfRange
