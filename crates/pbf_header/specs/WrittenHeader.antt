-- The header that is written for a header that was read.
use Rattle.std.specs.Prelude.{◌≡◌, ℕ, List, [], ◌∷◌, Option, Some, None, filter, codes}
use Rattle.std.specs.Option.{option_map, option_to_list}
use Rattle.osm_entity.specs.Ranges.{IsInt64, IfPresent}
use Rattle.osm_box.specs.declared.bounding_box.BoundingBox.{BoundingBox}
use Rattle.pbf_wire.specs.Message.{Slot, Scalar, Each, message}
use Rattle.pbf_wire.specs.Signed.{zigzag, sign_extended}
use Rattle.pbf_strings.specs.TableOut.{has_text}
use Rattle.pbf_header.specs.declared.header.HeaderBox.{HeaderBox}
use Rattle.pbf_header.specs.declared.header_block.TheConstants.{BBOX, REQUIRED_FEATURES, OPTIONAL_FEATURES, WRITINGPROGRAM, SOURCE, REPLICATION_TIMESTAMP, REPLICATION_SEQUENCE, REPLICATION_URL, LEFT, RIGHT, TOP, BOTTOM}
use Rattle.pbf_header.specs.Header.{HeaderSpec}

-- the required features that are known, in the order in which they are written
abbrev pub known_features : List (List ℕ)
known_features = codes "OsmSchema-V0.6" ∷ codes "DenseNodes" ∷ []

-- the optional features that hold of what is written if they hold of what was read, in the order in which they are written
abbrev pub kept_features : List (List ℕ) → List (List ℕ)
kept_features optional = filter (has_text optional) (codes "Has_Metadata" ∷ codes "Sort.Type_then_ID" ∷ codes "LocationsOnWays" ∷ [])

-- the header that is written, with this box; the source and the replication fields stay
abbrev pub header_out : Option HeaderBox → HeaderSpec → HeaderSpec
header_out bbox h = record h {
  bbox = bbox;
  required = known_features;
  optional = kept_features h.optional;
  program = Some (codes "pbfcut");
}

abbrev pub edges_of : BoundingBox → HeaderBox
edges_of area = record { left = area.left; right = area.right; top = area.top; bottom = area.bottom }

-- the header of an extract by a box
abbrev pub header_out_for_box : BoundingBox → HeaderSpec → HeaderSpec
header_out_for_box area h = header_out (Some (edges_of area)) h

-- the header of the same entities in canonical form
abbrev pub header_out_for_convert : HeaderSpec → HeaderSpec
header_out_for_convert h = header_out h.bbox h

-- ---- as a message

-- the HeaderBBox of a box
abbrev pub box_slots : HeaderBox → List Slot
box_slots b = Scalar LEFT (Some (zigzag b.left)) ∷ Scalar RIGHT (Some (zigzag b.right)) ∷ Scalar TOP (Some (zigzag b.top)) ∷ Scalar BOTTOM (Some (zigzag b.bottom)) ∷ []

unfoldable pub box_message : HeaderBox → List ℕ
box_message b = message (box_slots b)

-- the HeaderBlock of a header: what is absent is left out
abbrev pub header_slots : HeaderSpec → List Slot
header_slots h =
    Each BBOX (option_to_list (option_map box_message h.bbox))
    ∷ Each REQUIRED_FEATURES h.required
    ∷ Each OPTIONAL_FEATURES h.optional
    ∷ Each WRITINGPROGRAM (option_to_list h.program)
    ∷ Each SOURCE (option_to_list h.source)
    ∷ Scalar REPLICATION_TIMESTAMP (option_map sign_extended h.timestamp)
    ∷ Scalar REPLICATION_SEQUENCE (option_map sign_extended h.sequence)
    ∷ Each REPLICATION_URL (option_to_list h.url)
    ∷ []

unfoldable pub header_message : HeaderSpec → List ℕ
header_message h = message (header_slots h)

-- ---- what can be written

-- the edges of a box are numbers of 64 bits
pub record EdgesTyped (b : HeaderBox) : Type 0 where
  pub left : IsInt64 b.left
  pub right : IsInt64 b.right
  pub top : IsInt64 b.top
  pub bottom : IsInt64 b.bottom

abbrev pub BoxTyped : Option HeaderBox → Type 0
BoxTyped None = Unit {0}
BoxTyped (Some b) = EdgesTyped b

-- a header as one that is written is: its features and its program are those of a written header, and its numbers fit their types
pub record HeaderFits (h : HeaderSpec) : Type 0 where
  pub canonical : header_out_for_convert h ≡ h
  pub bbox : BoxTyped h.bbox
  pub timestamp : IfPresent IsInt64 h.timestamp
  pub sequence : IfPresent IsInt64 h.sequence
