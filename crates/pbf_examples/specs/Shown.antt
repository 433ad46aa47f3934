-- What is printed. `show` writes a line for each entity: its kind and id, a node's place in
-- nanodegrees, metadata, tags, refs, members. A text is printed in quotes, and a byte that has no
-- other form in it as `\x` and two digits.
use Rattle.std.specs.Prelude.{ℕ, List, [], ◌∷◌, ◌++◌}
use Rattle.pbf_examples.specs.Hex.{hex}
use Rattle.pbf_examples.specs.Reading.{◌shows◌, ◌shows_dated◌}
use Rattle.pbf_examples.specs.Frames.{header, header_frame, three_nodes, field}
use Rattle.pbf_examples.specs.Headers.{written_header, every_field, repeated_features}
use Rattle.pbf_examples.specs.Blocks.{with_block, ab}
use Rattle.pbf_examples.specs.Tags.{tagged, two_with, way_with}
use Rattle.pbf_examples.specs.Metadata.{stop, with_info}
use Rattle.pbf_examples.specs.Ways.{way_frame, nodes_frame, located_frame}
use Rattle.pbf_examples.specs.Extracts.{fine_node}
use Rattle.pbf_examples.specs.Relations.{three_members, with_relation}

-- ---- headers

pub record HeaderLines : Type 0 where
  pub written :
      written_header
      shows "H bbox 0 0 1000000000 1000000000" ∷ "H required \"OsmSchema-V0.6\""
      ∷ "H required \"DenseNodes\"" ∷ "H program \"pbfcut\"" ∷ []
  pub every :
      every_field
      shows "H bbox 1 -2 3 4" ∷ "H required \"OsmSchema-V0.6\"" ∷ "H required \"DenseNodes\""
      ∷ "H optional \"Has_Metadata\"" ∷ "H program \"p\"" ∷ "H source \"s\\\"t\""
      ∷ "H timestamp 5" ∷ "H sequence 7" ∷ "H url \"u\"" ∷ []
  pub repeated :
      repeated_features
      shows "H optional \"LocationsOnWays\"" ∷ "H optional \"Sort.Type_then_ID\""
      ∷ "H optional \"LocationsOnWays\"" ∷ "H optional \"Has_Metadata\"" ∷ []
  pub late :
      header_frame (hex "80 02 80 80 80 80 80 80 80 80 40")
      shows "H timestamp 4611686018427387904" ∷ []
  pub empty_texts :
      header_frame (hex "82 01 00  8a 01 00  92 02 00")
      shows "H program \"\"" ∷ "H source \"\"" ∷ "H url \"\"" ∷ []

-- ---- entities

pub record EntityLines : Type 0 where
  pub nodes : three_nodes shows "N 10 100 100" ∷ "N 11 -100 100" ∷ "N 15 100 100" ∷ []
  pub no_tags : two_with (hex "52 02  00 00") shows "N 1 100 100" ∷ "N 2 100 100" ∷ []
  pub fine : header ++ fine_node "ff ff ff ff ff ff ff ff ff 01" shows "N 1 999 999" ∷ []
  pub tag : tagged shows "N 1 100 100 \"\"=\"a\"" ∷ []
  pub repeated_tag :
      way_with (hex "12 03 01 01 01  1a 03 02 02 01")
      shows "W 7 \"a\"=\"b\" \"a\"=\"b\" \"a\"=\"a\"" ∷ []
  pub way :
      written_header ++ way_frame ++ nodes_frame
      shows "H bbox 0 0 1000000000 1000000000" ∷ "H required \"OsmSchema-V0.6\""
      ∷ "H required \"DenseNodes\"" ∷ "H program \"pbfcut\"" ∷ "W 7 n1 n2 n3" ∷ "N 1 100 100"
      ∷ "N 2 -100 100" ∷ []
  pub located :
      header ++ located_frame ++ nodes_frame
      shows "W 7 n1@100,100 n2@-100,100 n3@100,100" ∷ "N 1 100 100" ∷ "N 2 -100 100" ∷ []
  pub members : three_members shows "R 8 n1@\"\" w2@\"\" r-3@\"\"" ∷ []
  pub role : with_relation (hex "08 08  42 01 01  4a 01 02  52 01 00") shows "R 8 n1@\"to\"" ∷ []
  pub stop_sign : stop shows "N 1 100 100 v2 t1234567890000 s\"ann\" \"highway\"=\"stop\"" ∷ []
  pub all_metadata :
      with_info (hex "08 03  10 e8 07  18 4d  20 0c  28 01  30 01")
      shows "N 1 100 100 v3 t1000000 c77 u12 s\"ann\" d1" ∷ []
  pub deleted : with_info (hex "20 00  28 00  30 00") shows "N 1 100 100 u0 s\"\" d0" ∷ []

-- ---- texts

-- a node with a tag, whose key is these bytes and whose value is "b"
abbrev pub keyed : List ℕ → List ℕ
keyed key =
    with_block (field "0a" (hex "0a 00" ++ field "0a" key ++ hex "0a 01 62")
    ++ hex "12 10 12 0e  0a 01 02  42 01 02  4a 01 02  52 03 01 02 00")

pub record QuotedTexts : Type 0 where
  pub quote : keyed (hex "61 22 5c 0a") shows "N 1 100 100 \"a\\\"\\\\\\x0a\"=\"b\"" ∷ []
  -- a letter of two bytes is printed as it is, a control character is not
  pub letter : keyed (hex "c3 a9 7f") shows "N 1 100 100 \"é\\x7f\"=\"b\"" ∷ []
  -- a control character past ASCII is printed as it is too
  pub control : keyed (hex "c2 80") shows "N 1 100 100 \"\u{80}\"=\"b\"" ∷ []
  -- these are not UTF-8 as a whole: a stray byte, a surrogate, a zero in two bytes
  pub stray : keyed (hex "c3 a9 ff") shows "N 1 100 100 \"\\xc3\\xa9\\xff\"=\"b\"" ∷ []
  pub surrogate : keyed (hex "ed a0 80") shows "N 1 100 100 \"\\xed\\xa0\\x80\"=\"b\"" ∷ []
  pub long_zero : keyed (hex "c0 80") shows "N 1 100 100 \"\\xc0\\x80\"=\"b\"" ∷ []

-- ---- dates

-- node 1 with this time in milliseconds, as its zigzag
abbrev pub at_time : List ℕ → List ℕ
at_time time =
    with_block (ab
    ++ field "12" (field "12" (hex "0a 01 02  42 01 02  4a 01 02"
    ++ field "2a" (field "12" time))) ++ hex "90 01 01")

-- `show --dates` prints a time from 1970 to 2099 as a date; these lines are few, since the days
-- from 1970 on are counted one by one
pub record Dates : Type 0 where
  pub epoch : at_time (hex "00") shows_dated "N 1 100 100 t1970-01-01T00:00:00.000Z" ∷ []
  -- 86,400,001,001
  pub a_thousand_days :
      at_time (hex "d2 8f bb dd 83 05") shows_dated "N 1 100 100 t1972-09-27T00:00:01.001Z" ∷ []
  pub leap_day :
      at_time (hex "aa b2 d0 d5 b3 37") shows_dated "N 1 100 100 t2000-02-29T12:34:56.789Z" ∷ []
  pub stop_sign :
      stop shows_dated "N 1 100 100 v2 t2009-02-13T23:31:30.000Z s\"ann\" \"highway\"=\"stop\"" ∷ []
  pub before : at_time (hex "01") shows_dated "N 1 100 100 t-1" ∷ []
  -- the first millisecond of 2100
  pub after : at_time (hex "80 e0 9e cc e5 ee 01") shows_dated "N 1 100 100 t4102444800000" ∷ []
