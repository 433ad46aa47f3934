-- A written header is read as what it was written for.
use Rattle.std.proofs.Common.{◌+◌, ◌≤◌, Bool, true, false, cond, codes, ◌∷◌, [], subst, length, ◌≡◌, ℕ, ◌^◌, ◌<◌, ℤ, pos, negsuc, List, length, Option, Some, None, refl, ap, ◌∙◌, arith}
use Rattle.std.specs.Prelude.{unwrap_or}
use Rattle.std.specs.List.{flat_map, last_or, AllByRecursion}
use Rattle.std.specs.Option.{option_map, option_to_list}
use Rattle.std.proofs.lemmas.List.{append-nil}
use Rattle.std.proofs.lemmas.Int.{ints}
use Rattle.pbf_wire.specs.Faults.{fields_in, entered, leaf_faults, nested_faults, twice}
use Rattle.pbf_wire.specs.Message.{message, SlotFits, scalars_at}
use Rattle.pbf_wire.specs.Reading.{last_number, each}
use Rattle.pbf_wire.specs.Signed.{zigzag, unzigzag, sign_extended, low_i64}
use Rattle.pbf_wire.specs.declared.fault.Fault.{Fault}
use Rattle.pbf_wire.proofs.NoFaultLemmas.{SlotQuiet, scalar_quiet, each_quiet, fields_quiet, no_fault_within, leaf_quiet, field_count, present_written, once_written}
use Rattle.pbf_wire.proofs.MessageLemmas.{last_written, each_written, embedded_below}
use Rattle.pbf_wire.proofs.SumLemmas.{unzigzag_zigzag, signs_read, signs_fit}
use Rattle.osm_entity.specs.Weight.{text_weight}
use Rattle.osm_entity.specs.Ranges.{IsInt64, IfPresent}
use Rattle.pbf_strings.specs.TableOut.{has_text}
use Rattle.pbf_header.specs.declared.header.HeaderBox.{HeaderBox}
use Rattle.pbf_header.specs.declared.header_block.TheConstants.{HEADER_BLOCK_KINDS, BBOX_KINDS, BBOX, REQUIRED_FEATURES, OPTIONAL_FEATURES, WRITINGPROGRAM, SOURCE, REPLICATION_TIMESTAMP, REPLICATION_SEQUENCE, REPLICATION_URL, LEFT, RIGHT, TOP, BOTTOM}
use Rattle.pbf_header.specs.Header.{HeaderSpec, edge, box_in, last_text, header_in}
use Rattle.pbf_header.specs.HeaderFaults.{edge_faults, header_structure, feature_faults, header_values, header_fault}
use Rattle.pbf_header.specs.WrittenHeader.{known_features, header_out, header_out_for_convert, kept_features, EdgesTyped, BoxTyped, HeaderFits, box_slots, box_message, header_slots, header_message}
use Rattle.pbf_header.proofs.HeaderLemmas.{header_out_twice}
use Rattle.pbf_wire.proofs.LengthLemmas.{each_room, message_short}
use Rattle.osm_entity.proofs.RangeLemmas.{present}
use Rattle.pbf_wire.proofs.SlotLemmas.{IfSome, option_few, option_read, last_text_of, scalar_fits}
use Rattle.pbf_header.proofs.OneNumber.{all_given, number_read}
use Rattle.pbf_header.specs.declared.write.TheConstants.{MOST_HEADER_TEXT}

-- ---- the box

edge_fits : (z : ℤ) → IsInt64 z → zigzag z < 2 ^ 64
edge_fits (pos n) h = omega (arith, ints, h.0, h.1)
edge_fits (negsuc n) h = omega (arith, ints, h.0, h.1)

pub box_fits : (b : HeaderBox) → EdgesTyped b → AllByRecursion SlotFits (box_slots b)
box_fits b h = (
  (omega arith, omega arith, edge_fits b.left h.left),
  (
    (omega arith, omega arith, edge_fits b.right h.right),
    (
      (omega arith, omega arith, edge_fits b.top h.top),
      ((omega arith, omega arith, edge_fits b.bottom h.bottom), tt),
    ),
  ),
)

edge_read : (k : ℕ) (b : HeaderBox) (z : ℤ) → EdgesTyped b → length (box_message b) < 2 ^ 64 → last_or None (flat_map (scalars_at k) (box_slots b)) ≡ Some (zigzag z) → edge k (fields_in 0 (box_message b)) ≡ z
unfolding box_message
edge_read k b z h room e = ap (λ (v : Option ℕ). unzigzag (unwrap_or v 0)) (last_written k 0 (box_slots b) (box_fits b h) room ∙ e) ∙ unzigzag_zigzag z

pub box_read : (b : HeaderBox) → EdgesTyped b → length (box_message b) < 2 ^ 64 → box_in (box_message b) ≡ b
box_read b h room =
    let left = edge_read LEFT b b.left h room refl in
    let right = edge_read RIGHT b b.right h room refl in
    let top = edge_read TOP b b.top h room refl in
    let bottom = edge_read BOTTOM b b.bottom h room refl in
    rw (left, right, top, bottom) refl

-- ---- the header

int64_fits : (z : ℤ) → IsInt64 z → sign_extended z < 2 ^ 64
int64_fits z h = signs_fit z h.0 h.1

int64_read : (z : ℤ) → IsInt64 z → low_i64 (sign_extended z) ≡ z
int64_read z h = signs_read z h.0 h.1

pub header_slots_fit : (h : HeaderSpec) → HeaderFits h → AllByRecursion SlotFits (header_slots h)
header_slots_fit h fits =
    let timestamp = scalar_fits sign_extended IsInt64 int64_fits REPLICATION_TIMESTAMP (omega arith) (omega arith) h.timestamp (present IsInt64 h.timestamp fits.timestamp) in
    let sequence = scalar_fits sign_extended IsInt64 int64_fits REPLICATION_SEQUENCE (omega arith) (omega arith) h.sequence (present IsInt64 h.sequence fits.sequence) in
    ((omega arith, omega arith), ((omega arith, omega arith), ((omega arith, omega arith), ((omega arith, omega arith), ((omega arith, omega arith), (timestamp, (sequence, ((omega arith, omega arith), tt))))))))

-- a box that is there is read back
bbox_read : (bbox : Option HeaderBox) → BoxTyped bbox → AllByRecursion (λ m. length m < 2 ^ 64) (option_to_list (option_map box_message bbox)) → option_map box_in (option_map box_message bbox) ≡ bbox
bbox_read None h below = refl
bbox_read (Some b) h below = ap Some (box_read b h below.0)

pub header_read : (at : ℕ) (h : HeaderSpec) → HeaderFits h → length (header_message h) < 2 ^ 64 → header_in at (header_message h) ≡ h
unfolding header_message header_in
header_read at h fits room =
    let slots = header_slots h in
    let good = header_slots_fit h fits in
    let below = embedded_below (2 ^ 64) slots room in
    let os = fields_in at (message slots) in
    let bbox : option_map box_in (last_text BBOX os) ≡ h.bbox = ap (λ (ts : List (List ℕ)). option_map box_in (last_or None ts)) (each_written BBOX at slots good room) ∙ ap (option_map box_in) (last_text_of (option_map box_message h.bbox)) ∙ bbox_read h.bbox fits.bbox below.0 in
    let required : each REQUIRED_FEATURES os ≡ h.required = each_written REQUIRED_FEATURES at slots good room ∙ append-nil _ in
    let optional : each OPTIONAL_FEATURES os ≡ h.optional = each_written OPTIONAL_FEATURES at slots good room ∙ append-nil _ in
    let program : last_text WRITINGPROGRAM os ≡ h.program = ap (λ (ts : List (List ℕ)). last_or None ts) (each_written WRITINGPROGRAM at slots good room) ∙ last_text_of h.program in
    let source : last_text SOURCE os ≡ h.source = ap (λ (ts : List (List ℕ)). last_or None ts) (each_written SOURCE at slots good room) ∙ last_text_of h.source in
    let url : last_text REPLICATION_URL os ≡ h.url = ap (λ (ts : List (List ℕ)). last_or None ts) (each_written REPLICATION_URL at slots good room) ∙ last_text_of h.url in
    let timestamp : option_map low_i64 (last_number REPLICATION_TIMESTAMP os) ≡ h.timestamp =
    ap (option_map low_i64) (number_read at slots good room REPLICATION_TIMESTAMP _ refl) ∙ option_read sign_extended low_i64 IsInt64 int64_read h.timestamp (present IsInt64 h.timestamp fits.timestamp) in
    let sequence : option_map low_i64 (last_number REPLICATION_SEQUENCE os) ≡ h.sequence =
    ap (option_map low_i64) (number_read at slots good room REPLICATION_SEQUENCE _ refl) ∙ option_read sign_extended low_i64 IsInt64 int64_read h.sequence (present IsInt64 h.sequence fits.sequence) in
    rw (bbox, required, optional, program, source, url, timestamp, sequence) refl

-- ---- it has no fault

box_some : (bbox : Option HeaderBox) → BoxTyped bbox → AllByRecursion (λ m. length m < 2 ^ 64) (option_to_list (option_map box_message bbox)) → IfSome (λ b. EdgesTyped b × (length (box_message b) < 2 ^ 64)) bbox
box_some None h below = tt
box_some (Some b) h below = (h, below.0)

-- what is so of each box that can be written is so of the one there is
each_box : (P : List ℕ → Type 0) (bbox : Option HeaderBox) → ((b : HeaderBox) → EdgesTyped b → length (box_message b) < 2 ^ 64 → P (box_message b))
    → IfSome (λ b. EdgesTyped b × (length (box_message b) < 2 ^ 64)) bbox → AllByRecursion P (option_to_list (option_map box_message bbox))
each_box P None one h = tt
each_box P (Some b) one h = (one b h.0 h.1, tt)

box_wire : (place at : ℕ) (b : HeaderBox) → EdgesTyped b → length (box_message b) < 2 ^ 64 → leaf_faults BBOX_KINDS place at (box_message b) ≡ []
unfolding box_message
box_wire place at b h room = leaf_quiet BBOX_KINDS place at (box_slots b) (refl, (refl, (refl, (refl, tt)))) (box_fits b h) room

box_edges : (place at : ℕ) (b : HeaderBox) → EdgesTyped b → length (box_message b) < 2 ^ 64 → edge_faults place at (box_message b) ≡ []
unfolding box_message
box_edges place at b h room =
    let there = λ (k : ℕ) (some : 0 < field_count k (box_slots b)). present_written k place at (box_slots b) (box_fits b h) room some in
    rw (there LEFT (omega arith), there RIGHT (omega arith), there TOP (omega arith), there BOTTOM (omega arith)) refl

abbrev features_known : List (List ℕ) → Type 0
features_known texts = AllByRecursion (λ text. (place at : ℕ) → feature_faults place at text ≡ []) texts

all_known : features_known known_features
all_known = (λ place at. refl, (λ place at. refl, tt))

abbrev BoxFaults : Type 0
BoxFaults = ℕ → ℕ → List ℕ → List Fault

-- if no box has a fault there is none
box_alone : (f : BoxFaults) (h : HeaderSpec) → AllByRecursion (λ m. (place at : ℕ) → f place at m ≡ []) (option_to_list (option_map box_message h.bbox)) → AllByRecursion (SlotQuiet (entered BBOX f)) (header_slots h)
box_alone f h boxes =
    let inner = entered BBOX f in
    let required = each_quiet inner REQUIRED_FEATURES h.required (λ _ _ _. refl) in
    let optional = each_quiet inner OPTIONAL_FEATURES h.optional (λ _ _ _. refl) in
    let program = each_quiet inner WRITINGPROGRAM (option_to_list h.program) (λ _ _ _. refl) in
    let source = each_quiet inner SOURCE (option_to_list h.source) (λ _ _ _. refl) in
    let timestamp = scalar_quiet inner REPLICATION_TIMESTAMP (option_map sign_extended h.timestamp) (λ _ _. refl) in
    let sequence = scalar_quiet inner REPLICATION_SEQUENCE (option_map sign_extended h.sequence) (λ _ _. refl) in
    let url = each_quiet inner REPLICATION_URL (option_to_list h.url) (λ _ _ _. refl) in
    (boxes, (required, (optional, (program, (source, (timestamp, (sequence, (url, tt))))))))

-- if each required feature is known there is none
features_alone : (h : HeaderSpec) → AllByRecursion (λ text. (place at : ℕ) → feature_faults place at text ≡ []) h.required → AllByRecursion (SlotQuiet (entered REQUIRED_FEATURES feature_faults)) (header_slots h)
features_alone h known =
    let inner = entered REQUIRED_FEATURES feature_faults in
    let bbox = each_quiet inner BBOX (option_to_list (option_map box_message h.bbox)) (λ _ _ _. refl) in
    let optional = each_quiet inner OPTIONAL_FEATURES h.optional (λ _ _ _. refl) in
    let program = each_quiet inner WRITINGPROGRAM (option_to_list h.program) (λ _ _ _. refl) in
    let source = each_quiet inner SOURCE (option_to_list h.source) (λ _ _ _. refl) in
    let timestamp = scalar_quiet inner REPLICATION_TIMESTAMP (option_map sign_extended h.timestamp) (λ _ _. refl) in
    let sequence = scalar_quiet inner REPLICATION_SEQUENCE (option_map sign_extended h.sequence) (λ _ _. refl) in
    let url = each_quiet inner REPLICATION_URL (option_to_list h.url) (λ _ _ _. refl) in
    (bbox, (known, (optional, (program, (source, (timestamp, (sequence, (url, tt))))))))

module _ (at : ℕ) (h : HeaderSpec) (fits : HeaderFits h) (room : length (header_message h) < 2 ^ 64) where
  boxes : IfSome (λ b. EdgesTyped b × (length (box_message b) < 2 ^ 64)) h.bbox
  unfolding header_message
  boxes = box_some h.bbox fits.bbox (embedded_below (2 ^ 64) (header_slots h) room).0

  no_wire : nested_faults HEADER_BLOCK_KINDS BBOX BBOX_KINDS at at (header_message h) ≡ []
  unfolding header_message
  no_wire =
      let f = leaf_faults BBOX_KINDS in
      let box = each_box (λ m. (place at : ℕ) → leaf_faults BBOX_KINDS place at m ≡ []) h.bbox (λ b e lt place at. box_wire place at b e lt) boxes in
      no_fault_within HEADER_BLOCK_KINDS (entered BBOX f) at (header_slots h) (refl, (refl, (refl, (refl, (refl, (refl, (refl, (refl, tt))))))))
      (box_alone f h box)
      (header_slots_fit h fits) room

  no_structure : header_structure (fields_in at (header_message h)) ≡ []
  unfolding header_message
  no_structure =
      let slots = header_slots h in
      let good = header_slots_fit h fits in
      let f = edge_faults in
      let box = each_box (λ m. (place at : ℕ) → edge_faults place at m ≡ []) h.bbox (λ b e lt place at. box_edges place at b e lt) boxes in
      let few = option_few (option_map box_message h.bbox) in
      let none = ap (λ (ns : List ℕ). length ns) (all_given BBOX slots) in
      let once : twice BBOX (fields_in at (message slots)) ≡ [] = once_written BBOX at slots good room (omega (arith, few, none)) in
      let edges : flat_map (entered BBOX f) (fields_in at (message slots)) ≡ [] =
      fields_quiet (entered BBOX f) at slots
      (box_alone f h box)
      good room in
      rw (once, edges) refl

  no_value : header_values (fields_in at (header_message h)) ≡ []
  unfolding header_message
  no_value =
      let known : features_known h.required = subst features_known (ap (λ (g : HeaderSpec). g.required) fits.canonical) all_known in
      fields_quiet (entered REQUIRED_FEATURES feature_faults) at (header_slots h) (features_alone h known) (header_slots_fit h fits) room

  pub header_sound : header_fault at (header_message h) ≡ None
  unfolding header_fault
  header_sound = rw (no_wire, no_structure, no_value) refl

-- ---- it is short

-- what its texts take
abbrev text_room : Option (List ℕ) → ℕ
text_room text = each_room (option_to_list text)

box_room : (bbox : Option HeaderBox) → each_room (option_to_list (option_map box_message bbox)) ≤ 100
unfolding box_message
box_room None = omega arith
box_room (Some b) = omega (arith, message_short (box_slots b))

-- by which of the three features there are
features_room : (a b c : Bool) → each_room (cond a (codes "Has_Metadata" ∷ cond b (codes "Sort.Type_then_ID" ∷ cond c (codes "LocationsOnWays" ∷ []) []) (cond c (codes "LocationsOnWays" ∷ []) [])) (cond b (codes "Sort.Type_then_ID" ∷ cond c (codes "LocationsOnWays" ∷ []) []) (cond c (codes "LocationsOnWays" ∷ []) []))) ≤ 104
features_room false false false = omega arith
features_room false true false = omega arith
features_room true false false = omega arith
features_room true true false = omega arith
features_room a b c = omega arith

kept_room : (optional : List (List ℕ)) → each_room (kept_features optional) ≤ 104
kept_room optional = features_room (has_text optional (codes "Has_Metadata")) (has_text optional (codes "Sort.Type_then_ID")) (has_text optional (codes "LocationsOnWays"))

text_short : (text : Option (List ℕ)) → text_room text ≤ 20 + text_weight text
text_short None = omega arith
text_short (Some t) = omega arith

canonical_short : (h : HeaderSpec) → header_out_for_convert h ≡ h → text_weight h.source + text_weight h.url ≤ MOST_HEADER_TEXT → length (header_message h) < 33554432
unfolding header_message
canonical_short h canonical light =
    let required = ap (λ (g : HeaderSpec). each_room g.required) canonical in
    let optional = ap (λ (g : HeaderSpec). each_room g.optional) canonical in
    let program = ap (λ (g : HeaderSpec). text_room g.program) canonical in
    omega (arith, message_short (header_slots h), box_room h.bbox, required, optional, kept_room h.optional, program, text_short h.source, text_short h.url, light)

pub header_short : (h : HeaderSpec) → HeaderFits h → text_weight h.source + text_weight h.url ≤ MOST_HEADER_TEXT → length (header_message h) < 33554432
header_short h fits light = canonical_short h fits.canonical light

-- what is written for any header
pub out_short : (h : HeaderSpec) → text_weight h.source + text_weight h.url ≤ MOST_HEADER_TEXT → length (header_message (header_out_for_convert h)) < 33554432
out_short h light = canonical_short (header_out_for_convert h) (header_out_twice h.bbox h.bbox h) light

-- a header that is written out is one that can be written
pub out_fits : (bbox : Option HeaderBox) (h : HeaderSpec) → BoxTyped bbox → IfPresent IsInt64 h.timestamp → IfPresent IsInt64 h.sequence → HeaderFits (header_out bbox h)
out_fits bbox h box timestamp sequence = record { canonical = header_out_twice bbox bbox h; bbox = box; timestamp = timestamp; sequence = sequence }

module _ (at : ℕ) (h : HeaderSpec) (fits : HeaderFits h) (light : text_weight h.source + text_weight h.url ≤ MOST_HEADER_TEXT) where
  below : length (header_message h) < 2 ^ 64
  below = omega (arith, header_short h fits light)

  pub light_read : header_in at (header_message h) ≡ h
  light_read = header_read at h fits below

  pub light_sound : header_fault at (header_message h) ≡ None
  light_sound = header_sound at h fits below
