-- Headers. The payload of an OSMHeader frame is a HeaderBlock: a box, the features that a reader
-- has to know and those that it may know, and where the file comes from.
use Rattle.std.specs.Prelude.{ℕ, List, [], ◌∷◌, ◌++◌, pos, Some, None, codes}
use Rattle.pbf_header.specs.Header.{HeaderSpec}
use Rattle.pbf_wire.specs.declared.fault.Reason.TheVariants.{VarintCut, WrongType, Missing, TwiceMessage, Feature}
use Rattle.pbf_examples.specs.Hex.{hex}
use Rattle.pbf_examples.specs.Reading.{◌means◌, ◌has_header◌, ◌refused_at◌for◌, ◌cut_by◌gives◌, ◌converts_to◌, minus, box}
use Rattle.pbf_examples.specs.Frames.{header, header_head, header_frame, field}

-- ---- a header that says nothing

-- what is written for it by the box: the box, the two features, and who wrote it
abbrev pub written_header : List ℕ
written_header =
    header_head ++ hex "39  0a 37"  -- a blob of 57 bytes, a payload of 55
    ++ hex "0a 10  08 00  10 80 a8 d6 b9 07"  -- 19  1 bbox: 1 left 0, 2 right 10^9
    ++ hex "18 80 a8 d6 b9 07  20 00"  --     3 top 10^9, 4 bottom 0
    ++ hex "22 0e" ++ codes "OsmSchema-V0.6"  -- 37  4 required_features
    ++ hex "22 0a" ++ codes "DenseNodes"  -- 53
    ++ hex "82 01 06" ++ codes "pbfcut"  -- 65  16 writingprogram

-- a conversion writes the file's own box, and here there is none
abbrev pub converted_header : List ℕ
converted_header =
    header_head ++ hex "27  0a 25"
    ++ hex "22 0e" ++ codes "OsmSchema-V0.6" ++ hex "22 0a" ++ codes "DenseNodes"
    ++ hex "82 01 06" ++ codes "pbfcut"

pub record WrittenHeader : Type 0 where
  pub extract : header cut_by box gives written_header
  pub converted : header converts_to converted_header
  pub extract_again : written_header cut_by box gives written_header
  pub converted_again : converted_header converts_to converted_header

-- ---- a header that says everything

abbrev pub every_field : List ℕ
every_field =
    header_head ++ hex "4a  0a 48"
    ++ hex "0a 08  08 02  10 06  18 08  20 03"  -- 19  1 bbox: left 1, right 3, top 4, bottom -2
    ++ hex "22 0e" ++ codes "OsmSchema-V0.6"  -- 29  4 required_features
    ++ hex "22 0a" ++ codes "DenseNodes"  -- 45
    ++ hex "2a 0c" ++ codes "Has_Metadata"  -- 57  5 optional_features
    ++ hex "82 01 01" ++ codes "p"  -- 71  16 writingprogram
    ++ hex "8a 01 03" ++ codes "s\"t"  -- 75  17 source
    ++ hex "80 02 05"  -- 81  32 osmosis_replication_timestamp
    ++ hex "88 02 07"  -- 84  33 osmosis_replication_sequence_number
    ++ hex "92 02 01" ++ codes "u"  -- 87  34 osmosis_replication_base_url

abbrev pub every_field_says : HeaderSpec
every_field_says = record {
  bbox = Some (record { left = pos 1; right = pos 3; top = pos 4; bottom = minus 2 });
  required = codes "OsmSchema-V0.6" ∷ codes "DenseNodes" ∷ [];
  optional = codes "Has_Metadata" ∷ [];
  program = Some (codes "p");
  source = Some (codes "s\"t");
  url = Some (codes "u");
  timestamp = Some (pos 5);
  sequence = Some (pos 7);
}

-- what is written of it: all but the program and, for an extract, the box
abbrev pub every_field_kept : List ℕ
every_field_kept =
    hex "22 0e" ++ codes "OsmSchema-V0.6" ++ hex "22 0a" ++ codes "DenseNodes"
    ++ hex "2a 0c" ++ codes "Has_Metadata" ++ hex "82 01 06" ++ codes "pbfcut"
    ++ hex "8a 01 03" ++ codes "s\"t" ++ hex "80 02 05" ++ hex "88 02 07" ++ hex "92 02 01"
    ++ codes "u"

pub record EveryField : Type 0 where
  pub said : every_field has_header every_field_says
  pub converted :
      every_field
      converts_to header_frame (hex "0a 08  08 02  10 06  18 08  20 03" ++ every_field_kept)
  pub extract :
      every_field
      cut_by box
      gives header_frame (hex "0a 10  08 00  10 80 a8 d6 b9 07  18 80 a8 d6 b9 07  20 00"
      ++ every_field_kept)

-- ---- headers that are spelled otherwise

abbrev pub bare_header : HeaderSpec
bare_header = record {
  bbox = None;
  required = [];
  optional = [];
  program = None;
  source = None;
  url = None;
  timestamp = None;
  sequence = None;
}

pub record SpelledHeaders : Type 0 where
  pub nothing : header has_header bare_header
  -- the edges of the box in another order
  pub turned :
      header_frame (hex "0a 08  20 03  18 08  10 06  08 02")
      has_header record bare_header { bbox = every_field_says.bbox }
  -- the last program counts; an empty text is one that is there
  pub program_twice :
      header_frame (hex "82 01 01 61  82 01 01 62")
      has_header record bare_header { program = Some (codes "b") }
  pub empty_text : header_frame (hex "8a 01 00") has_header record bare_header { source = Some [] }
  -- int64, in ten bytes
  pub minus_one :
      header_frame (hex "88 02 ff ff ff ff ff ff ff ff ff 01")
      has_header record bare_header { sequence = Some (minus 1) }
  -- 2^62, which the time of an entity may not be
  pub late :
      header_frame (hex "80 02 80 80 80 80 80 80 80 80 40")
      has_header record bare_header { timestamp = Some (pos 4_611_686_018_427_387_904) }
  -- an unknown field 3
  pub unknown :
      header_frame (hex "1a 01 ff  80 02 05")
      has_header record bare_header { timestamp = Some (pos 5) }

-- ---- features

-- of the optional features three are written again if the file has them, each once, in the order
-- of `kept_features`
abbrev pub repeated_features : List ℕ
repeated_features =
    header_frame (field "2a" (codes "LocationsOnWays") ++ field "2a" (codes "Sort.Type_then_ID")
    ++ field "2a" (codes "LocationsOnWays") ++ field "2a" (codes "Has_Metadata"))

abbrev pub kept_features : List ℕ
kept_features =
    header_frame (hex "22 0e" ++ codes "OsmSchema-V0.6" ++ hex "22 0a" ++ codes "DenseNodes"
    ++ field "2a" (codes "Has_Metadata") ++ field "2a" (codes "Sort.Type_then_ID")
    ++ field "2a" (codes "LocationsOnWays")
    ++ hex "82 01 06" ++ codes "pbfcut")

pub record Features : Type 0 where
  pub repeated : repeated_features converts_to kept_features
  pub unknown_optional : header_frame (field "2a" (codes "Sorted")) converts_to converted_header
  pub known :
      header_frame (field "22" (codes "DenseNodes") ++ field "22" (codes "DenseNodes")) means []
  -- a required feature that is not known, at its field
  pub history : header_frame (field "22" (codes "HistoricalInformation")) refused_at 19 for Feature
  pub only_optional : header_frame (field "22" (codes "LocationsOnWays")) refused_at 19 for Feature
  pub other_letters :
      header_frame (field "22" (codes "OsmSchema-V0.6") ++ field "22" (codes "densenodes"))
      refused_at 35 for Feature
  pub empty_name : header_frame (field "22" []) refused_at 19 for Feature

-- ---- faults

pub record HeaderFaults : Type 0 where
  pub no_left : header_frame (hex "0a 06  10 00  18 00  20 00") refused_at 19 for Missing 1
  pub no_right : header_frame (hex "0a 06  08 00  18 00  20 00") refused_at 19 for Missing 2
  pub no_top : header_frame (hex "0a 06  08 00  10 00  20 00") refused_at 19 for Missing 3
  pub no_bottom : header_frame (hex "0a 06  08 00  10 00  18 00") refused_at 19 for Missing 4
  pub two_boxes :
      header_frame (hex "0a 08 08 00 10 00 18 00 20 00  0a 08 08 00 10 00 18 00 20 00")
      refused_at 29 for TwiceMessage
  pub program_of_a_number : header_frame (hex "80 01 05") refused_at 19 for WrongType
  pub edge_cut : header_frame (hex "0a 03  08 00  10") refused_at 23 for VarintCut
