-- Relations. A relation has members, in three columns of one length: the roles, which are places
-- in the table of texts; the ids, which are deltas; the kinds, 0 for a node, 1 for a way and 2
-- for a relation.
use Rattle.std.specs.Prelude.{ℕ, List, [], ◌∷◌, ◌++◌, pos, codes}
use Rattle.osm_entity.specs.declared.member.MemberKind.TheVariants as kind
use Rattle.osm_entity.specs.Entity.{Decoded}
use Rattle.pbf_wire.specs.declared.fault.Reason.TheVariants.{Missing, StringIndex, OutOfRange, MemberColumns, MemberKind, WrongType}
use Rattle.pbf_examples.specs.Hex.{hex}
use Rattle.pbf_examples.specs.Reading.{◌means◌, ◌refused_at◌for◌, minus, relation, member}
use Rattle.pbf_examples.specs.Frames.{header, data_head, field}
use Rattle.pbf_examples.specs.Blocks.{with_block, one_text}

-- ---- a relation of three members

abbrev pub three_members : List ℕ
three_members =
    header
    ++ data_head ++ hex "1b  0a 19"
    ++ hex "0a 02 0a 00"  -- 36  1 stringtable
    ++ hex "12 13  22 11"  -- 40  2 primitivegroup: 4 relations
    ++ hex "08 08"  -- 44  1 id 8
    ++ hex "42 03  00 00 00"  -- 46  8 roles_sid: text 0 for each
    ++ hex "4a 03  02 02 09"  -- 51  9 memids 1, +1, -5
    ++ hex "52 03  00 01 02"  -- 56  10 types: node, way, relation

abbrev pub of_three_kinds : List Decoded
of_three_kinds =
    relation (pos 8) (member kind.Node (pos 1) ∷ member kind.Way (pos 2)
    ∷ member kind.Relation (minus 3) ∷ []) ∷ []

-- the texts "" and "to", and a relation of these fields; they begin at byte 48
abbrev pub with_relation : List ℕ → List ℕ
with_relation fields =
    with_block (hex "0a 06  0a 00  0a 02 74 6f" ++ field "12" (field "22" fields))

pub record Members : Type 0 where
  pub meaning : three_members means of_three_kinds
  pub none : with_relation (hex "08 08") means relation (pos 8) [] ∷ []
  pub unpacked :
      with_relation (hex "08 08  50 00  50 01  50 02  48 02  48 02  48 09  40 00  40 00  40 00")
      means of_three_kinds
  pub in_pieces :
      with_relation (hex "42 01 00  4a 02 02 02  52 02 00 01  08 08  42 02 00 00  4a 01 09  50 02")
      means of_three_kinds
  pub role :
      with_relation (hex "08 08  42 01 01  4a 01 02  52 01 00")
      means relation (pos 8) (record { kind = kind.Node; id = pos 1; role = codes "to" } ∷ []) ∷ []
  -- an enum is the low 32 bits: 2^32 + 1 is a way
  pub high_bits :
      with_block (one_text
      ++ field "12" (field "22" (hex "08 07  42 01 00  4a 01 02  52 05 81 80 80 80 10")))
      means relation (pos 7) (member kind.Way (pos 1) ∷ []) ∷ []
  pub id_below :
      with_relation (hex "08 f8 ff ff ff ff ff ff ff ff 01") means relation (minus 8) [] ∷ []

-- ---- faults

pub record RelationFaults : Type 0 where
  pub role_less : with_relation (hex "08 08  4a 01 02  52 01 00") refused_at 46 for MemberColumns
  pub kind_less : with_relation (hex "08 08  42 01 00  4a 01 02") refused_at 46 for MemberColumns
  pub id_more :
      with_relation (hex "08 08  42 01 00  4a 02 02 02  52 01 00") refused_at 46 for MemberColumns
  pub kind_three :
      with_relation (hex "08 08  42 01 00  4a 01 02  52 01 03") refused_at 56 for MemberKind
  pub kind_below :
      with_relation (hex "08 08  42 01 00  4a 01 02  52 0a ff ff ff ff ff ff ff ff ff 01")
      refused_at 56 for MemberKind
  pub role_past :
      with_relation (hex "08 08  42 01 02  4a 01 02  52 01 00") refused_at 50 for StringIndex
  pub role_below :
      with_relation (hex "08 08  42 0a ff ff ff ff ff ff ff ff ff 01  4a 01 02  52 01 00")
      refused_at 50 for StringIndex
  pub member_over :
      with_relation (hex "08 08  42 01 00  4a 0a 80 80 80 80 80 80 80 80 80 01  52 01 00")
      refused_at 53 for OutOfRange
  pub no_id : with_relation [] refused_at 46 for Missing 1
  pub id_of_bytes : with_relation (hex "0a 01 08") refused_at 48 for WrongType
  pub id_over : with_relation (hex "08 80 80 80 80 80 80 80 80 40") refused_at 48 for OutOfRange
