-- The limit of the header that is written.
use Rattle.std.specs.Prelude.{ℕ, ◌+◌, ◌≤◌, nat_le, if◌then◌else◌, List, [], Bool, Option, Some, None}
use Rattle.std.specs.Option.{option_map}
use Rattle.pbf_wire.specs.declared.fault.Fault.{Fault}
use Rattle.pbf_wire.specs.declared.fault.Reason.TheVariants.{NoHeader, EntityLarge}
use Rattle.pbf_wire.specs.Faults.{fault}
use Rattle.osm_entity.specs.Weight.{text_weight}
use Rattle.pbf_header.specs.declared.write.TheConstants.{MOST_HEADER_TEXT}
use Rattle.pbf_header.specs.Header.{HeaderSpec, header_of}
use Rattle.pbf_frame.specs.Frames.{FrameSpec}
use Rattle.pbf_frame.specs.Verdict.{Verdict}
use Rattle.pbf_pass.specs.declared.pass.Pass.{Pass}
use Rattle.pbf_pass.specs.Judged.{judged_file}
use Rattle.pbf_pass.specs.Pass.{file_header}

-- ---- a header

-- its source and its base URL aren't too long to be written
abbrev pub has_short_texts : HeaderSpec → Bool
has_short_texts h = nat_le (text_weight h.source + text_weight h.url) MOST_HEADER_TEXT

-- a header that isn't too long to be written
abbrev pub HasShortTexts : HeaderSpec → Type 0
HasShortTexts h = text_weight h.source + text_weight h.url ≤ MOST_HEADER_TEXT

-- the fault of a header that can't be written, at its place; if there is none, which a file without a fault has
abbrev pub header_limit : Option (ℕ × HeaderSpec) → Option Fault
header_limit None = Some (fault 0 NoHeader)
header_limit (Some header) = if has_short_texts header.1 then None else Some (fault header.0 EntityLarge)

abbrev pub with_limit : Option Fault → List FrameSpec → Verdict
with_limit None frames = (frames, None)
with_limit (Some e) frames = ([], Some e)

-- the verdict of all phases, and then of this limit
abbrev pub limited : Verdict → Verdict
limited (frames, Some e) = (frames, Some e)
limited (frames, None) = with_limit (header_limit (file_header frames)) frames

abbrev pub judged_writable : Option (List ℕ) → Option Verdict
judged_writable known = option_map limited (judged_file known)

-- ---- the header that a pass took

abbrev pub held_header : Pass → Option (ℕ × HeaderSpec)
held_header pass = option_map (λ h. (pass.header_at, header_of h)) pass.header
