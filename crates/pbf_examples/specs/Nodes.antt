-- Nodes. A group has plain Node messages, as in the chapter Wire, or one DenseNodes message: a
-- column of ids, one of latitudes, one of longitudes. Each is a delta column: its first entry is
-- a value, each further one what is added to the value before.
use Rattle.std.specs.Prelude.{ℕ, suc, List, [], ◌∷◌, ◌++◌, pos, take, drop}
use Rattle.pbf_wire.specs.declared.fault.Reason.TheVariants.{VarintCut, Group, LengthPast, WrongType, BlobCut, Missing, ColumnLengths, OutOfRange}
use Rattle.pbf_examples.specs.Hex.{hex}
use Rattle.pbf_examples.specs.Reading.{◌means◌, ◌refused_at◌for◌, minus, node}
use Rattle.pbf_examples.specs.Frames.{three_nodes, three, field}
use Rattle.pbf_examples.specs.Wire.{with_node}
use Rattle.pbf_examples.specs.Blocks.{with_block, one_text}

-- ---- columns

-- a header and a block whose group is a DenseNodes of these columns; they begin at byte 44
abbrev pub with_dense : List ℕ → List ℕ
with_dense columns = with_block (one_text ++ field "12" (field "12" columns))

-- a column may come in pieces, packed or number by number; they are joined
pub record Columns : Type 0 where
  pub packed : with_dense (hex "0a 03 14 02 08  42 03 02 03 04  4a 03 02 00 00") means three
  pub in_pieces :
      with_dense (hex "0a 01 14  0a 01 02  08 08  42 03 02 03 04  4a 03 02 00 00") means three
  pub unpacked :
      with_dense (hex "08 14  08 02  08 08  40 02  40 03  40 04  48 02  48 00  48 00") means three
  pub around_another :
      with_dense (hex "0a 01 14  42 03 02 03 04  0a 02 02 08  4a 03 02 00 00") means three
  pub empty_piece :
      with_dense (hex "0a 00  0a 03 14 02 08  42 03 02 03 04  4a 03 02 00 00") means three
  pub longer_numbers :
      with_dense (hex "0a 05 94 80 00 02 08  42 03 02 03 04  4a 03 02 00 00") means three
  pub reversed : with_dense (hex "4a 03 02 00 00  42 03 02 03 04  0a 03 14 02 08") means three
  -- an unknown field 11 of bytes
  pub unknown :
      with_dense (hex "0a 03 14 02 08  5a 02 ff ff  42 03 02 03 04  4a 03 02 00 00") means three

pub record Deltas : Type 0 where
  -- ids 10, -15, +0
  pub down :
      with_dense (hex "0a 03 14 1d 00  42 03 02 00 00  4a 03 02 00 00")
      means node (pos 10) (pos 100) (pos 100) [] ∷ node (minus 5) (pos 100) (pos 100) []
      ∷ node (minus 5) (pos 100) (pos 100) [] ∷ []

-- ---- ranges

-- an id is strictly between -2^62 and 2^62, and so is a stored coordinate; of a column the sums
-- count
pub record Ranges : Type 0 where
  -- 2^62 - 1, and 2^62
  pub most :
      with_dense (hex "0a 09 fe ff ff ff ff ff ff ff 7f  42 01 02  4a 01 02")
      means node (pos 4_611_686_018_427_387_903) (pos 100) (pos 100) [] ∷ []
  pub over :
      with_dense (hex "0a 0a 80 80 80 80 80 80 80 80 80 01  42 01 02  4a 01 02")
      refused_at 44 for OutOfRange
  -- 1 - 2^62 is the least
  pub least :
      with_dense (hex "0a 09 fd ff ff ff ff ff ff ff 7f  42 01 02  4a 01 02")
      means node (minus 4_611_686_018_427_387_903) (pos 100) (pos 100) [] ∷ []
  pub under :
      with_dense (hex "0a 09 ff ff ff ff ff ff ff ff 7f  42 01 02  4a 01 02")
      refused_at 44 for OutOfRange
  -- 2^62 - 1 and +1: at the piece that holds the entry
  pub sum :
      with_dense (hex "0a 09 fe ff ff ff ff ff ff ff 7f  08 02  42 02 02 00  4a 02 02 00")
      refused_at 55 for OutOfRange
  pub latitude :
      with_dense (hex "0a 01 02  42 0a 80 80 80 80 80 80 80 80 80 01  4a 01 02")
      refused_at 47 for OutOfRange
  pub plain :
      with_node (hex "08 80 80 80 80 80 80 80 80 80 01  40 02  48 02") refused_at 44 for OutOfRange

-- ---- faults

pub record NodeFaults : Type 0 where
  pub longitude_less :
      with_dense (hex "0a 03 14 02 08  42 03 02 03 04  4a 02 02 00") refused_at 42 for ColumnLengths
  pub latitude_more :
      with_dense (hex "0a 03 14 02 08  42 04 02 03 04 00  4a 03 02 00 00")
      refused_at 42 for ColumnLengths
  pub no_id : with_dense (hex "42 01 02  4a 01 02") refused_at 42 for ColumnLengths
  pub column_cut :
      with_dense (hex "0a 03 14 02 08  42 03 02 03 04  4a 03 02 00 80") refused_at 54 for VarintCut
  pub column_of_four_bytes :
      with_dense (hex "0d 14 00 00 00  42 01 02  4a 01 02") refused_at 44 for WrongType
  pub plain_without_id : with_node (hex "40 02  48 02") refused_at 42 for Missing 1
  pub plain_without_lat : with_node (hex "08 14  48 02") refused_at 42 for Missing 8
  pub plain_without_lon : with_node (hex "08 14  40 02") refused_at 42 for Missing 9

-- ---- one byte changed

-- the file with another byte at this place
abbrev pub changed : ℕ → ℕ → List ℕ → List ℕ
changed place byte file = take place file ++ byte ∷ drop (suc place) file

pub record ChangedByte : Type 0 where
  pub size_less : changed 33 24 three_nodes refused_at 34 for LengthPast
  pub size_more : changed 33 26 three_nodes refused_at 34 for BlobCut
  pub raw_more : changed 35 24 three_nodes refused_at 34 for LengthPast
  -- the tag of the table is that of the unknown field 15
  pub no_table : changed 36 122 three_nodes refused_at 36 for Missing 1
  pub group_in_table : changed 38 11 three_nodes refused_at 38 for Group
  -- the tag of the group is that of the unknown field 3
  pub no_group : changed 40 26 three_nodes means []
  -- the tag of the dense nodes is that of a way, whose id is a number
  pub way_for_dense : changed 42 26 three_nodes refused_at 44 for WrongType
  -- the first id goes on into the second
  pub id_less : changed 46 148 three_nodes refused_at 42 for ColumnLengths
  pub longitude_cut : changed 58 128 three_nodes refused_at 54 for VarintCut
  pub both : changed 46 148 (changed 58 128 three_nodes) refused_at 54 for VarintCut
