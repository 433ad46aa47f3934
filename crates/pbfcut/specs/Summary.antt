-- What `info` says of the frames of a file, as lines and in JSON: its first header, and how many there are of each type.
use Rattle.std.specs.Prelude.{◌≡◌, ℕ, ◌+◌, ◌==◌, ◌&&◌, if◌then◌else◌, List, [], ◌∷◌, ◌++◌, codes, decimal, Bool, true, false, Option, Some, None}
use Rattle.std.specs.Option.{option_map}
use Rattle.pbf_wire.specs.declared.fault.Fault.{Fault}
use Rattle.pbf_frame.specs.declared.frame.FrameKind.{FrameKind}
use Rattle.pbf_frame.specs.declared.frame.FrameKind.TheVariants as kind
use Rattle.pbf_frame.specs.Frames.{FrameSpec, frame_kind, is_header, is_data}
use Rattle.pbf_frame.specs.Verdict.{Verdict, Says, judged_known}
use Rattle.osm_text.specs.HeaderJson.{header_members}
use Rattle.pbf_header.specs.Header.{header_in}
use Rattle.pbf_header.specs.HeaderFaults.{header_fault}
use Rattle.pbf_block.specs.Numbers.{capped}
use Rattle.pbf_pass.specs.Judged.{sound_first}
use Rattle.pbf_pass.specs.Payload.{Payload, header_block, payload_of}
use Rattle.pbfcut.specs.declared.summary.Summary.{Summary}
use Rattle.pbfcut.specs.Showing.{frame_text, text_in}

-- ---- frames

abbrev pub is_other : FrameKind → Bool
is_other kind.Other = true
is_other _ = false

-- the first of them that is a header
abbrev pub first_header : List FrameSpec → Option FrameSpec
first_header [] = None
first_header (f ∷ fs) = if is_header (frame_kind f) then Some f else first_header fs

-- its lines
abbrev pub header_lines : Option FrameSpec → List ℕ
header_lines None = []
header_lines (Some f) = frame_text false f

-- what a JSON object has of it
abbrev pub members_in : Payload → List ℕ
members_in (header_block at message) = header_members (header_in at message)
members_in _ = []

abbrev pub members_of : Option FrameSpec → List ℕ
members_of None = []
members_of (Some f) = members_in (payload_of f)

-- how many of them are of a kind
abbrev pub count_of : (FrameKind → Bool) → List FrameSpec → ℕ
count_of is [] = 0
count_of is (f ∷ fs) = if is (frame_kind f) then count_of is fs + 1 else count_of is fs

-- the line of these numbers
abbrev pub counts_line : (headers blocks others : ℕ) → List ℕ
counts_line headers blocks others = codes "H frames OSMHeader " ++ decimal headers ++ codes " OSMData " ++ decimal blocks ++ codes " other " ++ decimal others ++ codes "\n"

-- the same in JSON
abbrev pub counts_object : (headers blocks others : ℕ) → List ℕ
counts_object headers blocks others =
    codes "{\"OSMHeader\":" ++ decimal headers ++ codes ",\"OSMData\":" ++ decimal blocks
    ++ codes ",\"other\":" ++ decimal others ++ codes "}"

-- ---- the verdict on frames and headers

-- the first fault of a header; what other frames hold isn't read
abbrev pub fault_of_header : Payload → Option Fault
fault_of_header (header_block at message) = header_fault at message
fault_of_header _ = None

abbrev pub heading_fault : FrameSpec → Option Fault
heading_fault f = fault_of_header (payload_of f)

-- the frames before the first header that has a fault, and that fault; if none has one, all of them and what follows them
abbrev pub headings_front : List FrameSpec → Option Fault → Verdict
headings_front [] ending = ([], ending)
headings_front (f ∷ fs) ending = sound_first (heading_fault f) f (headings_front fs ending)

abbrev pub headings_known : Option Verdict → Option Verdict
headings_known known = option_map (λ (v : Verdict). headings_front v.0 v.1) known

-- the verdict on a file of its frames, and of its header
abbrev pub judged_headings : Option (List ℕ) → Option Verdict
judged_headings known = headings_known (judged_known false 0 known)

-- ---- a summary

-- one more is counted, if it is of the kind
abbrev pub counted : (FrameKind → Bool) → FrameKind → ℕ → ℕ
counted is k n = if is k then capped (n + 1) else n

-- what a frame with this payload, which has no fault if it is a header, adds
pub record Sums (k : FrameKind) (p : Payload) (old new : Summary) : Type 0 where
  pub sound : fault_of_header p ≡ None
  pub lines : new.lines.items ≡ (if old.headers == 0 && is_header k then text_in false p else old.lines.items)
  pub members : new.members.items
      ≡ (if old.headers == 0 && is_header k then members_in p else old.members.items)
  pub headers : new.headers ≡ counted is_header k old.headers
  pub blocks : new.blocks ≡ counted is_data k old.blocks
  pub others : new.others ≡ counted is_other k old.others

-- it is that of the frames of a file
pub record IsSummary (known : Option Verdict) (s : Summary) : Type 0 where
  pub frames : List FrameSpec
  pub says : Says known (frames, None)
  pub lines : s.lines.items ≡ header_lines (first_header frames)
  pub members : s.members.items ≡ members_of (first_header frames)
  pub headers : s.headers ≡ count_of is_header frames
  pub blocks : s.blocks ≡ count_of is_data frames
  pub others : s.others ≡ count_of is_other frames
