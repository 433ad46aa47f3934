-- The verdict on a file that has to be sorted by type.
use Rattle.std.specs.Prelude.{ℕ, if◌then◌else◌, List, map, Option, Some, None}
use Rattle.std.specs.Option.{option_map}
use Rattle.osm_entity.specs.Entity.{EntitySpec, node, way, relation}
use Rattle.osm_ways.specs.Sorted.{is_rising}
use Rattle.pbf_wire.specs.declared.fault.Fault.{Fault}
use Rattle.pbf_wire.specs.declared.fault.Reason.TheVariants.{Unsorted}
use Rattle.pbf_wire.specs.Faults.{fault}
use Rattle.pbf_header.specs.Header.{HeaderSpec}
use Rattle.pbf_frame.specs.Frames.{FrameSpec}
use Rattle.pbf_frame.specs.Verdict.{Verdict}
use Rattle.pbf_pass.specs.Counting.{stored_entities}
use Rattle.pbf_pass.specs.HeaderLimit.{judged_writable, with_limit}
use Rattle.pbf_pass.specs.Pass.{file_header}

-- nodes, ways and relations
abbrev pub rank_of : EntitySpec → ℕ
rank_of (node n) = 0
rank_of (way w) = 1
rank_of (relation r) = 2

abbrev pub place_of_header : Option (ℕ × HeaderSpec) → ℕ
place_of_header None = 0
place_of_header (Some header) = header.0

-- a node after a way or a relation, or a way after a relation; it is reported at the header
abbrev pub order_fault : List FrameSpec → Option Fault
order_fault frames = if is_rising (map rank_of (stored_entities frames)) then None else Some (fault (place_of_header (file_header frames)) Unsorted)

-- the verdict on a file that is written, and then of the order
abbrev pub ordered : Verdict → Verdict
ordered (frames, Some e) = (frames, Some e)
ordered (frames, None) = with_limit (order_fault frames) frames

abbrev pub judged_sorted : Option (List ℕ) → Option Verdict
judged_sorted known = option_map ordered (judged_writable known)
