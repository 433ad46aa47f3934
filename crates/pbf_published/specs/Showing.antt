-- What `show_info` writes, as lines or in JSON.
use Rattle.std.specs.Prelude.{◌≡◌, Bool, true, false, if◌then◌else◌, ℕ, List, ◌++◌, codes, Option, None, IfSome}
use Rattle.pbf_frame.specs.Frames.{FrameSpec, is_data, is_header}
use Rattle.pbf_frame.specs.Verdict.{Says, judged_known}
use Rattle.pbf_unpack.specs.declared.stored.Stored.{Stored}
use Rattle.pbf_unpack.specs.Stored.{stored_from}
use Rattle.pbfcut.specs.declared.summary.Summary.{Summary}
use Rattle.pbfcut.specs.Summary.{count_of, counts_line, counts_object, first_header, header_lines, is_other, members_of}
use Rattle.pbf_published.specs.Published.{raw_of}

-- how all blobs are stored
abbrev pub storage : Stored → List ℕ
storage s =
    if s.packed then (if s.raw then codes "\"mixed\"" else codes "\"zlib\"") else codes "\"raw\""

-- the lines of a header, that of how blobs are stored, and that of how many frames there are of each type
abbrev pub info_lines : (header : List ℕ) → Stored → (frames : List ℕ) → List ℕ
info_lines header stored frames =
    header ++ codes "H stored " ++ storage stored ++ codes "\n" ++ frames

-- the same as one object of JSON, on one line
abbrev pub info_object : (members : List ℕ) → Stored → (frames : List ℕ) → List ℕ
info_object members stored frames =
    codes "{" ++ members ++ codes "\"stored\":" ++ storage stored
    ++ codes ",\"frames\":" ++ frames ++ codes "}\n"

-- one or the other, by the header in both forms and by how many frames there are of each type
abbrev pub text_by : (json : Bool) (lines members : List ℕ) → Stored → (headers blocks others : ℕ) → List ℕ
text_by false lines members stored headers blocks others = info_lines lines stored (counts_line headers blocks others)
text_by true lines members stored headers blocks others = info_object members stored (counts_object headers blocks others)

-- what is said of these frames, of which the first header counts
abbrev pub info_text : (json : Bool) → List FrameSpec → Stored → List ℕ
info_text json frames stored =
    text_by json (header_lines (first_header frames)) (members_of (first_header frames)) stored
    (count_of is_header frames) (count_of is_data frames) (count_of is_other frames)

-- the same, by a summary of the frames
abbrev pub summary_text : (json : Bool) → Summary → Stored → List ℕ
summary_text json s stored = text_by json s.lines.items s.members.items stored s.headers s.blocks s.others

-- these bytes are what is said of the raw file that published bytes mean, none of whose frames has a fault, and of how those are stored
pub record TellsInfo (json : Bool) (has : Option (List ℕ)) (written : List ℕ) : Type 0 where
  pub frames : List FrameSpec
  pub stored : Stored
  pub says : Says (judged_known false 0 (raw_of has)) (frames, None)
  pub stores : IfSome has (λ packed. stored ≡ stored_from 0 packed)
  pub is : written ≡ info_text json frames stored
