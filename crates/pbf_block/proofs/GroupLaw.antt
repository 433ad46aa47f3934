-- Groups that are written: entities one by one, or nodes as a dense message.
use Rattle.std.proofs.Common.{◌≡◌, ℕ, ◌+◌, ◌^◌, ◌<◌, ◌≤◌, ◌==◌, true, false, List, [], ◌∷◌, ◌++◌, length, map, Some, refl, sym, ap, subst, ◌∙◌, arith}
use Rattle.std.specs.Prelude.{if◌then◌else◌, unwrap_or}
use Rattle.std.proofs.Math.Bool.{and-false}
use Rattle.std.specs.List.{flat_map, find, AllByRecursion}
use Rattle.std.specs.Option.{option_map}
use Rattle.std.proofs.lemmas.List.{append-nil, map-id}
use Rattle.pbf_wire.specs.declared.fault.Fault.{Fault}
use Rattle.pbf_wire.specs.declared.kind.Kind.TheVariants as kind
use Rattle.pbf_wire.specs.Occurrence.{Bytes, Occurrence}
use Rattle.pbf_wire.specs.Wire.{kind_of}
use Rattle.pbf_wire.specs.Writing.{Whole, spelling, occurrences_of}
use Rattle.pbf_wire.specs.Faults.{fields_in, twice}
use Rattle.pbf_wire.specs.Message.{Slot, Each, message, SlotFits, unless_empty}
use Rattle.pbf_wire.proofs.MessageLemmas.{fields_written, embedded_below}
use Rattle.pbf_wire.proofs.AllLemmas.{all_map, all_weaker, all_left, all_right}
use Rattle.pbf_wire.proofs.NoFaultLemmas.{field_at, SlotQuiet, each_gives, fields_quiet, fields_give, no_fault_within, field_count, once_written, no_items, unless_below}
use Rattle.osm_entity.specs.declared.scale.Scale.{Scale}
use Rattle.osm_entity.specs.Entity.{EntitySpec, WaySpec, RelationSpec, node, way, relation, entity_scale, NodeSpec}
use Rattle.pbf_block.specs.declared.group.TheConstants.{GROUP_KINDS, DENSE, CHANGESETS, WAYS, RELATIONS}
use Rattle.pbf_block.specs.Group.{member_wire, group_wire, member_structure, holds_entities, first_member, is_of_other_kind, entities_structure, group_structure, member_values, weight_fault, member_weights, member_entities}
use Rattle.pbf_block.specs.PrimitiveBlock.{indexed}
use Rattle.std.proofs.lemmas.Bool.{le-ltb}
use Rattle.std.proofs.lemmas.List.Concat.{flat_map_single}
use Rattle.pbf_strings.specs.TableOut.{table_of, has_text}
use Rattle.osm_entity.specs.EntityTexts.{entity_texts, node_texts}
use Rattle.osm_entity.specs.Ranges.{EntityFits, EntityTyped, NodeFits}
use Rattle.pbf_dense.specs.WrittenDense.{dense_message, dense_info_message, NodesHeld}
use Rattle.pbf_block.specs.WrittenBlock.{nodes_among, ways_among, relations_among, group_message}
use Rattle.pbf_block.specs.WrittenEntity.{way_message, relation_message}
use Rattle.pbf_block.proofs.EntityLaw.{AreAmong, way_read, way_no_wire, way_no_structure, way_no_value, relation_read, relation_no_wire, relation_no_structure, relation_no_value}
use Rattle.std.proofs.lemmas.List.Folds.{flat_map-map}
use Rattle.pbf_dense.specs.Nodes.{nodes}
use Rattle.pbf_dense.proofs.DenseLaw.{wire_written, structure_written, values_written, nodes_written}

-- a message at the field k of a group has no fault and holds these entities, wherever it is
pub record MemberGood (table : List (List ℕ)) (scale : Scale) (k : ℕ) (m : List ℕ) (es : List EntitySpec) : Type 0 where
  pub wire : (place begin : ℕ) → member_wire (field_at place k (Bytes m begin)) ≡ []
  pub structure : (place begin : ℕ) → entities_structure (field_at place k (Bytes m begin)) ≡ []
  pub values : (place begin : ℕ) → member_values (length table) (field_at place k (Bytes m begin)) ≡ []
  pub entities : (place begin : ℕ) → member_entities indexed table scale (field_at place k (Bytes m begin)) ≡ es
  pub light : (place : ℕ) → flat_map (weight_fault place) es ≡ []

-- the same of a group
pub record GroupGood (table : List (List ℕ)) (scale : Scale) (group : List ℕ) (es : List EntitySpec) : Type 0 where
  pub wire : (place at : ℕ) → group_wire place at group ≡ []
  pub structure : (place at : ℕ) → group_structure place at group ≡ []
  pub values : (at : ℕ) → flat_map (member_values (length table)) (fields_in at group) ≡ []
  pub entities : (at : ℕ) → flat_map (member_entities indexed table scale) (fields_in at group) ≡ es
  pub weights : (at : ℕ) → flat_map (member_weights indexed table scale) (fields_in at group) ≡ []

-- ---- fields of one number

all_numbered : (k at : ℕ) (ms : List (List ℕ)) → AllByRecursion (λ o. o.number ≡ k) (occurrences_of at (map (Whole k) ms ++ []))
all_numbered k at [] = tt
all_numbered k at (m ∷ ms) = (refl, all_numbered k (at + length (spelling (Whole k m))) ms)

-- the first that holds entities has that number, if there is one
first_same : (k : ℕ) (os : List Occurrence) → AllByRecursion (λ o. o.number ≡ k) os → unwrap_or (first_member os) k ≡ k
first_same k [] h = refl
first_same k (o ∷ os) h =
    elim (holds_entities o.number) as (λ b. unwrap_or (option_map (λ (o : Occurrence). o.number) (if b then Some o else find (λ o. holds_entities o.number) os)) k ≡ k) [ true ↦ h.0 | false ↦ first_same k os h.1 ]

pub not_mixed : (k : ℕ) (os : List Occurrence) → AllByRecursion (λ o. o.number ≡ k) os → is_of_other_kind (first_member os) k ≡ false
not_mixed k os h =
    let same : (k == k) ≡ true = grind arith in
    rw (first_same k os h, same) (and-false (holds_entities k))

-- ---- a group of one field

-- a field that a group may have
pub record IsField (k : ℕ) : Type 0 where
  pub positive : 0 < k
  pub small : k < 2 ^ 29
  pub known : kind_of GROUP_KINDS k ≡ Some kind.Bytes
  pub other : (k == CHANGESETS) ≡ false

-- each of these has a message and entities
module _ (table : List (List ℕ)) (scale : Scale) (k : ℕ) {W : Type 0} (message_of : W → List ℕ) (held : W → List EntitySpec) (ws : List W) where
  abbrev IsGood : W → Type 0
  IsGood w = MemberGood table scale k (message_of w) (held w)

  module _ (h : AllByRecursion IsGood ws) (field : IsField k) (once : field_count DENSE (Each k (map message_of ws) ∷ []) ≤ 1) (short : length (message (Each k (map message_of ws) ∷ [])) < 2 ^ 64) where
    abbrev slots : List Slot
    slots = Each k (map message_of ws) ∷ []

    fits : AllByRecursion SlotFits slots
    fits = ((field.positive, field.small), tt)

    quiet : (f : Occurrence → List Fault) → ((w : W) → IsGood w → (place begin : ℕ) → f (field_at place k (Bytes (message_of w) begin)) ≡ []) → AllByRecursion (SlotQuiet f) slots
    quiet f each = (all_map (λ m. (place begin : ℕ) → f (field_at place k (Bytes m begin)) ≡ []) message_of ws (all_weaker IsGood _ each ws h), tt)

    numbered : (at : ℕ) → AllByRecursion (λ o. o.number ≡ k) (fields_in at (message slots))
    numbered at = subst (λ (os : List Occurrence). AllByRecursion (λ o. o.number ≡ k) os) (sym (fields_written at slots fits short)) (all_numbered k at (map message_of ws))

    sound : (place at : ℕ) → group_structure place at (message slots) ≡ []
    sound place at =
        let os = fields_in at (message slots) in
        let repeated : twice DENSE os ≡ [] = once_written DENSE at slots fits short once in
        let f = member_structure (first_member os) in
        let members : flat_map f os ≡ [] = fields_quiet f at slots (quiet f (λ w g place begin. rw (not_mixed k os (numbered at), field.other, g.structure place begin) refl)) fits short in
        rw (repeated, members) refl

    pub group_good : GroupGood table scale (message slots) (flat_map held ws)
    group_good =
        let entities = member_entities indexed table scale in
        let weights = member_weights indexed table scale in
        record {
          wire = λ place at. no_fault_within GROUP_KINDS member_wire at slots (field.known, tt) (quiet member_wire (λ w g. g.wire)) fits short;
          structure = sound;
          values = λ at. fields_quiet (member_values (length table)) at slots (quiet (member_values (length table)) (λ w g. g.values)) fits short;
          entities = λ at. fields_give entities at ((Each k (map message_of ws), flat_map held ws) ∷ []) (each_gives entities message_of held k ws (all_weaker IsGood _ (λ w g. g.entities) ws h), tt) fits short ∙ append-nil _;
          weights = λ at. fields_quiet weights at slots (quiet weights (λ w g place begin. ap (flat_map (weight_fault place)) (g.entities place begin) ∙ g.light place)) fits short;
        }

-- ---- written groups of ways and of relations: a message for each

-- the field of a group that an entity is in
abbrev pub number_of : EntitySpec → ℕ
number_of (node n) = DENSE
number_of (way w) = WAYS
number_of (relation r) = RELATIONS

-- its message there; nodes have one together
abbrev message_of : List (List ℕ) → EntitySpec → List ℕ
message_of texts (node n) = []
message_of texts (way w) = way_message texts w
message_of texts (relation r) = relation_message texts r

-- it may be in the group of another
pub record IsLike (e f : EntitySpec) : Type 0 where
  pub number : number_of f ≡ number_of e
  pub scale : entity_scale f ≡ entity_scale e

-- ---- the group is these messages

-- no nodes are no dense message
pub no_dense : (texts : List (List ℕ)) → dense_message texts [] ≡ []
unfolding dense_message dense_info_message message
no_dense texts = refl

module _ (texts : List (List ℕ)) where
  pub only_ways : (es : List EntitySpec) → AllByRecursion (λ e. number_of e ≡ WAYS) es → (nodes_among es ≡ []) × (map (way_message texts) (ways_among es) ≡ map (message_of texts) es) × (relations_among es ≡ [])
  only_ways [] h = (refl, refl, refl)
  only_ways (way w ∷ es) h = let rest = only_ways es h.1 in (rest.0, ap (λ (ms : List (List ℕ)). way_message texts w ∷ ms) rest.1, rest.2)
  only_ways (e ∷ es) h = absurd (omega (arith, h.0))

  pub only_relations : (es : List EntitySpec) → AllByRecursion (λ e. number_of e ≡ RELATIONS) es → (nodes_among es ≡ []) × (ways_among es ≡ []) × (map (relation_message texts) (relations_among es) ≡ map (message_of texts) es)
  only_relations [] h = (refl, refl, refl)
  only_relations (relation r ∷ es) h = let rest = only_relations es h.1 in (rest.0, rest.1, ap (λ (ms : List (List ℕ)). relation_message texts r ∷ ms) rest.2)
  only_relations (e ∷ es) h = absurd (omega (arith, h.0))

  group_is : (e : EntitySpec) (es : List EntitySpec) → ¬ (number_of e ≡ DENSE) → AllByRecursion (λ f. number_of f ≡ number_of e) es → group_message texts es ≡ message (Each (number_of e) (map (message_of texts) es) ∷ [])
  unfolding group_message message
  group_is (node n) es other h = absurd (other refl)
  group_is (way w) es other h = let only = only_ways es h in rw (only.0, only.1, only.2, no_dense texts) refl
  group_is (relation r) es other h = let only = only_relations es h in rw (only.0, only.1, only.2, no_dense texts) refl

  -- ---- each message is good

  module _ (few : length (table_of texts) ≤ 1048576) where
    entity_good : (e : EntitySpec) → ¬ (number_of e ≡ DENSE) → EntityFits e → EntityTyped e → AreAmong texts (entity_texts e) → MemberGood (table_of texts) (entity_scale e) (number_of e) (message_of texts e) (e ∷ [])
    entity_good (node n) other fits typed among = absurd (other refl)
    entity_good (way w) other fits typed among = record {
      wire = λ place begin. rw (way_no_wire texts w fits typed among few place begin) refl;
      structure = λ place begin. rw (way_no_structure texts w fits typed among few place begin) refl;
      values = λ place begin. rw (way_no_value texts w fits typed among few place begin) refl;
      entities = λ place begin. ap (λ (w : WaySpec). way w ∷ []) (way_read texts w fits typed among few begin);
      light = λ place. rw (le-ltb _ _ fits.light) refl;
    }
    entity_good (relation r) other fits typed among = record {
      wire = λ place begin. rw (relation_no_wire texts r fits typed among few place begin) refl;
      structure = λ place begin. rw (relation_no_structure texts r fits typed among few place begin) refl;
      values = λ place begin. rw (relation_no_value texts r fits typed among few place begin) refl;
      entities = λ place begin. ap (λ (r : RelationSpec). relation r ∷ []) (relation_read texts r fits typed among few begin);
      light = λ place. rw (le-ltb _ _ fits.light) refl;
    }

    module _ (e : EntitySpec) (other : ¬ (number_of e ≡ DENSE)) where
      abbrev IsGoodLike : EntitySpec → Type 0
      IsGoodLike f = MemberGood (table_of texts) (entity_scale e) (number_of e) (message_of texts f) (f ∷ [])

      all_good : (es : List EntitySpec) → AllByRecursion (IsLike e) es → AllByRecursion EntityFits es → AllByRecursion EntityTyped es → AreAmong texts (flat_map entity_texts es) → AllByRecursion IsGoodLike es
      all_good [] like fit typed among = tt
      all_good (f ∷ es) like fit typed among =
          let one = entity_good f (λ n. other (sym like.0.number ∙ n)) fit.0 typed.0 (all_left _ (entity_texts f) (flat_map entity_texts es) among) in (
            subst (λ (k : ℕ). MemberGood (table_of texts) (entity_scale e) k (message_of texts f) (f ∷ [])) like.0.number
                (subst (λ (s : Scale). MemberGood (table_of texts) s (number_of f) (message_of texts f) (f ∷ [])) like.0.scale one),
            all_good es like.1 fit.1 typed.1 (all_right _ (entity_texts f) (flat_map entity_texts es) among),
          )

      is_field : (f : EntitySpec) → ¬ (number_of f ≡ DENSE) → IsField (number_of f) × ((ms : List (List ℕ)) → field_count DENSE (Each (number_of f) ms ∷ []) ≤ 1)
      is_field (node n) other = absurd (other refl)
      is_field f other = (record { positive = omega arith; small = omega arith; known = refl; other = refl }, λ ms. omega arith)

      -- a written group of ways, or of relations, has no fault and holds these
      pub others_good : (es : List EntitySpec) → AllByRecursion (IsLike e) es → AllByRecursion EntityFits es → AllByRecursion EntityTyped es → AreAmong texts (flat_map entity_texts es) → length (group_message texts es) < 2 ^ 64
          → GroupGood (table_of texts) (entity_scale e) (group_message texts es) es
      others_good es like fit typed among short =
          let same = group_is e es other (all_weaker (IsLike e) _ (λ f l. l.number) es like) in
          let field = is_field e other in
          let good = group_good (table_of texts) (entity_scale e) (number_of e) (message_of texts) (λ f. f ∷ []) es (all_good es like fit typed among) field.0 (field.1 _) (subst (λ (g : List ℕ). length g < 2 ^ 64) same short) in
          subst (λ (g : List ℕ). GroupGood (table_of texts) (entity_scale e) g es) (sym same)
          (subst (λ (fs : List EntitySpec). GroupGood (table_of texts) (entity_scale e) (message (Each (number_of e) (map (message_of texts) es) ∷ [])) fs) (flat_map_single (λ f. f) es ∙ map-id es) good)

-- ---- a written group of nodes: one dense message, or nothing

nodes_light : (place : ℕ) (ns : List NodeSpec) → AllByRecursion NodeFits ns → flat_map (weight_fault place) (map node ns) ≡ []
nodes_light place [] h = refl
nodes_light place (n ∷ ns) h = rw (le-ltb _ _ h.0.light) (nodes_light place ns h.1)

field : IsField DENSE
field = record { positive = omega arith; small = omega arith; known = refl; other = refl }

module _ (texts : List (List ℕ)) (scale : Scale) (ns : List NodeSpec) (h : NodesHeld texts scale ns) where
  dense_good : MemberGood (table_of texts) scale DENSE (dense_message texts ns) (map node ns)
  dense_good = record {
    wire = λ place begin. rw (wire_written texts scale ns h place begin) refl;
    structure = λ place begin. rw (structure_written texts scale ns h place begin) refl;
    values = λ place begin. rw (values_written texts scale ns h place begin) refl;
    entities = λ place begin. ap (map node) (nodes_written texts scale ns h begin);
    light = λ place. nodes_light place ns h.fit;
  }

  no_nodes : nodes (table_of texts) scale [] ≡ []
  unfolding nodes
  no_nodes = refl

  nothing_left : dense_message texts ns ≡ [] → ns ≡ []
  nothing_left e = sym (nodes_written texts scale ns h 0) ∙ ap (λ (m : List ℕ). nodes (table_of texts) scale (fields_in 0 m)) e ∙ ap (nodes (table_of texts) scale) no_items ∙ no_nodes

  one_dense : (m : List ℕ) → MemberGood (table_of texts) scale DENSE m (map node ns) → (m ≡ [] → ns ≡ []) → length (message (Each DENSE (unless_empty m) ∷ [])) < 2 ^ 64
      → GroupGood (table_of texts) scale (message (Each DENSE (unless_empty m) ∷ [])) (map node ns)
  one_dense [] good none short =
      subst (λ (es : List EntitySpec). GroupGood (table_of texts) scale (message (Each DENSE [] ∷ [])) es) (sym (ap (map node) (none refl)))
      (group_good (table_of texts) scale DENSE (λ m. m) (λ m. map node ns) [] tt field (omega arith) short)
  one_dense (b ∷ bs) good none short =
      subst (λ (es : List EntitySpec). GroupGood (table_of texts) scale (message (Each DENSE ((b ∷ bs) ∷ []) ∷ [])) es) (append-nil (map node ns))
      (group_good (table_of texts) scale DENSE (λ m. m) (λ m. map node ns) ((b ∷ bs) ∷ []) (good, tt) field (omega arith) short)

-- ---- the group is that message

pub only_nodes : (es : List EntitySpec) → AllByRecursion (λ e. number_of e ≡ DENSE) es → (map node (nodes_among es) ≡ es) × (ways_among es ≡ []) × (relations_among es ≡ [])
only_nodes [] h = (refl, refl, refl)
only_nodes (node n ∷ es) h = let rest = only_nodes es h.1 in (ap (λ (es : List EntitySpec). node n ∷ es) rest.0, rest.1, rest.2)
only_nodes (e ∷ es) h = absurd (omega (arith, h.0))

-- what holds of the entities holds of the nodes among them
pub nodes_all : (P : EntitySpec → Type 0) (es : List EntitySpec) → AllByRecursion P es → AllByRecursion (λ n. P (node n)) (nodes_among es)
nodes_all P [] h = tt
nodes_all P (node n ∷ es) h = (h.0, nodes_all P es h.1)
nodes_all P (e ∷ es) h = nodes_all P es h.1

module _ (texts : List (List ℕ)) (es : List EntitySpec) (h : AllByRecursion (λ e. number_of e ≡ DENSE) es) where
  dense_group : group_message texts es ≡ message (Each DENSE (unless_empty (dense_message texts (nodes_among es))) ∷ [])
  unfolding group_message message
  dense_group = let only = only_nodes es h in rw (only.1, only.2) refl

  -- their texts are those of the nodes
  pub nodes_named : AllByRecursion (λ text. has_text texts text ≡ true) (flat_map entity_texts es) → AllByRecursion (λ text. has_text texts text ≡ true) (flat_map node_texts (nodes_among es))
  nodes_named named =
      let same = ap (flat_map entity_texts) (sym (only_nodes es h).0) ∙ flat_map-map entity_texts node (nodes_among es) in
      subst (λ (ts : List (List ℕ)). AllByRecursion (λ text. has_text texts text ≡ true) ts) same named

  module _ (short : length (group_message texts es) < 2 ^ 64) where
    shorter : length (message (Each DENSE (unless_empty (dense_message texts (nodes_among es))) ∷ [])) < 2 ^ 64
    shorter = subst (λ (g : List ℕ). length g < 2 ^ 64) dense_group short

    pub dense_short : length (dense_message texts (nodes_among es)) < 2 ^ 64
    dense_short = unless_below (2 ^ 64) (dense_message texts (nodes_among es)) (omega arith) (embedded_below (2 ^ 64) (Each DENSE (unless_empty (dense_message texts (nodes_among es))) ∷ []) shorter).0

    -- a written group of nodes has no fault and holds these nodes
    pub nodes_good : (scale : Scale) → NodesHeld texts scale (nodes_among es) → GroupGood (table_of texts) scale (group_message texts es) es
    nodes_good scale held =
        let ns = nodes_among es in
        subst (λ (g : List ℕ). GroupGood (table_of texts) scale g es) (sym dense_group)
        (subst (λ (fs : List EntitySpec). GroupGood (table_of texts) scale (message (Each DENSE (unless_empty (dense_message texts ns)) ∷ [])) fs) (only_nodes es h).0
        (one_dense texts scale ns held (dense_message texts ns) (dense_good texts scale ns held) (nothing_left texts scale ns held) shorter))
