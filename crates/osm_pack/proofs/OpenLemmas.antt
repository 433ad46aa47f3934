-- An open block, entity by entity, and nodes that are added many at a time.
use Rattle.std.proofs.Common.{◌≡◌, ◌⊎◌, inl, inr, ℕ, ◌+◌, ◌^◌, ◌*◌, ◌≤◌, List, [], ◌∷◌, ◌++◌, Bool, true, false, ◌&&◌, length, map, Some, None, refl, sym, ap, ◌∙◌, subst, arith, append_assoc, append-nil, length-append, ap₂, true≢false}
use Rattle.std.specs.Prelude.{unwrap_or, nat_le, min, ◌-◌, if◌then◌else◌}
use Rattle.osm_entity.specs.declared.scale.Scale.{Scale}
use Rattle.std.specs.List.{sum_by, flat_map, list_all, AllByRecursion}
use Rattle.std.proofs.lemmas.List.{length_push, map_push, length-map}
use Rattle.std.proofs.lemmas.List.Sums.{sum_by_push, sum_by-cons, sum_by-append, list_all-from_AllPass}
use Rattle.std.proofs.Math.Bool.{and-true}
use Rattle.pbf_wire.specs.Message.{Each, slot_bytes, message, unless_empty}
use Rattle.pbf_wire.proofs.LengthLemmas.{each_short}
use Rattle.pbf_wire.proofs.WritingLemmas.{each_none, each_joined, message_first, message_one}
use Rattle.pbf_strings.specs.TableOut.{texts_after, table_message, text_held}
use Rattle.pbf_strings.proofs.UsedTexts.{after_both, used_later}
use Rattle.osm_entity.specs.Entity.{NodeSpec, WaySpec, RelationSpec, EntitySpec, node, way, relation}
use Rattle.osm_entity.specs.EntityTexts.{node_texts, way_texts, relation_texts, entity_texts}
use Rattle.osm_entity.specs.Ranges.{EntityFits}
use Rattle.osm_entity.specs.Weight.{entity_weight, node_weight}
use Rattle.pbf_dense.specs.declared.dense_out.DenseOut.{DenseOut}
use Rattle.pbf_dense.specs.WrittenDense.{HoldsNodes, columns_of, columns_held, dense_message, dense_length}
use Rattle.pbf_block.specs.WrittenBlock.{are_alike, is_block, nodes_among, ways_among, relations_among, texts_of_all, messages_among, group_message, scale_among, block_slots, block_message}
use Rattle.pbf_block.specs.declared.entity_out.EntityOut.{EntityOut}
use Rattle.pbf_block.specs.WrittenEntity.{way_message, relation_message, writer_length}
use Rattle.pbf_block.proofs.LengthLaw.{open_short, once_few, parts_are, block_parts, after_held, table_fits, nodes_fit, group_fits, closing_fits, block_from}
use Rattle.osm_pack.specs.declared.open_block.OpenBlock.{OpenBlock}
use Rattle.osm_pack.specs.declared.open_block.Joining.{Joining}
use Rattle.osm_pack.specs.declared.open_block.TheConstants.{MOST_HELD}
use Rattle.osm_pack.specs.Likenesses.{likeness_of, same_likeness, is_like, has_like}
use Rattle.osm_pack.specs.Open.{likeness_among, Holds, IsOpen, IsJoining, Encodes, Counts, IsClosing, block_held}
use Rattle.osm_pack.proofs.CutLemmas.{like_first, joins, kept_bounds, kept_none, kept_one}
use Rattle.osm_entity.specs.declared.weight.TheConstants.{HIGHEST_WEIGHT}
use Rattle.pbf_block.proofs.GroupLaw.{number_of, no_dense, only_ways, only_relations, only_nodes}
use Rattle.pbf_block.proofs.WrittenLaw.{block_number}
use Rattle.pbf_wire.proofs.AllLemmas.{all_left, all_middle, all_weaker}
use Rattle.std.proofs.lemmas.Grind.{flat_map-append}
use Rattle.pbf_block.specs.declared.block_write.TheConstants.{MOST_ENTITIES}
use Rattle.std.proofs.lemmas.List.Elements.{All-from_recursion}
use Rattle.std.proofs.lemmas.List.Folds.{list_all-append, list_all-map, flat_map-map}

-- ---- what entities have in common

pub alike_likeness : (e f : EntitySpec) → same_likeness (likeness_of e) (likeness_of f) ≡ are_alike e f
alike_likeness (node m) (node n) = refl
alike_likeness (way v) (way w) = and-true _
alike_likeness (relation q) (relation r) = and-true _
alike_likeness e f = refl

pub likeness_push : (es : List EntitySpec) (e : EntitySpec) → likeness_among (es ++ e ∷ []) ≡ Some (unwrap_or (likeness_among es) (likeness_of e))
likeness_push [] e = refl
likeness_push (x ∷ es) e = refl

-- ---- texts

pub texts_append : (es fs : List EntitySpec) → texts_of_all (es ++ fs) ≡ texts_after (texts_of_all es) (flat_map entity_texts fs)
texts_append es fs = ap (texts_after []) (flat_map-append entity_texts es fs) ∙ after_both (flat_map entity_texts es) (flat_map entity_texts fs) []

texts_push : (es : List EntitySpec) (e : EntitySpec) → texts_after (texts_of_all es) (entity_texts e) ≡ texts_of_all (es ++ e ∷ [])
texts_push es e = ap (texts_after (texts_of_all es)) (sym (append-nil (entity_texts e))) ∙ sym (texts_append es (e ∷ []))

-- texts that are used after an entity are used after those of the entity
texts_later : (es : List EntitySpec) (e : EntitySpec) (used : List (List ℕ)) → texts_after (texts_of_all es) (entity_texts e ++ used) ≡ texts_after (texts_of_all (es ++ e ∷ [])) used
texts_later es e used = used_later (texts_of_all es) (texts_of_all (es ++ e ∷ [])) (entity_texts e) used (sym (texts_push es e))

-- there is room for the texts of entities that may join
pub room : (es fs : List EntitySpec) → is_block (es ++ fs) ≡ true → length (texts_of_all es) + length (flat_map entity_texts fs) ≤ 1048575
room es fs h =
    let joined = ap (λ (ts : List (List ℕ)). length ts) (flat_map-append entity_texts es fs) in
    omega (arith, (block_parts (es ++ fs) h).light, (parts_are [] (es ++ fs)).few, joined, length-append (flat_map entity_texts es) (flat_map entity_texts fs), once_few es)

-- ---- the entities of each kind

pub nodes_append : (es fs : List EntitySpec) → nodes_among (es ++ fs) ≡ nodes_among es ++ nodes_among fs
nodes_append [] fs = refl
nodes_append (node n ∷ es) fs = ap (λ ns. n ∷ ns) (nodes_append es fs)
nodes_append (e ∷ es) fs = nodes_append es fs

ways_append : (es fs : List EntitySpec) → ways_among (es ++ fs) ≡ ways_among es ++ ways_among fs
ways_append [] fs = refl
ways_append (way w ∷ es) fs = ap (λ ws. w ∷ ws) (ways_append es fs)
ways_append (e ∷ es) fs = ways_append es fs

relations_append : (es fs : List EntitySpec) → relations_among (es ++ fs) ≡ relations_among es ++ relations_among fs
relations_append [] fs = refl
relations_append (relation r ∷ es) fs = ap (λ rs. r ∷ rs) (relations_append es fs)
relations_append (e ∷ es) fs = relations_append es fs

pub of_nodes : (ns : List NodeSpec) → (nodes_among (map node ns) ≡ ns) × (ways_among (map node ns) ≡ []) × (relations_among (map node ns) ≡ [])
of_nodes [] = (refl, refl, refl)
of_nodes (n ∷ ns) = let rest = of_nodes ns in (ap (λ ns. n ∷ ns) rest.0, rest.1, rest.2)

-- ---- all of one kind

-- a block has only nodes, or none
nodes_or_others : (es : List EntitySpec) → is_block es ≡ true → (nodes_among es ≡ []) ⊎ ((ways_among es ≡ []) × (relations_among es ≡ []))
nodes_or_others [] h = inl refl
nodes_or_others (node n ∷ es) h = let only = only_nodes (node n ∷ es) (block_number (node n) es h) in inr (only.1, only.2)
nodes_or_others (way w ∷ es) h = inl (only_ways [] (way w ∷ es) (block_number (way w) es h)).0
nodes_or_others (relation r ∷ es) h = inl (only_relations [] (relation r ∷ es) (block_number (relation r) es h)).0

-- a way joins no relations
before_way : (es : List EntitySpec) (w : WaySpec) → is_block (es ++ way w ∷ []) ≡ true → relations_among es ≡ []
before_way [] w h = refl
before_way (x ∷ xs) w h =
    let all = block_number x (xs ++ way w ∷ []) h in
    let is : number_of (way w) ≡ number_of x = all_middle (λ f. number_of f ≡ number_of x) (x ∷ xs) (way w) [] all in
    (only_ways [] (x ∷ xs) (all_weaker (λ f. number_of f ≡ number_of x) (λ f. number_of f ≡ number_of (way w)) (λ f e. e ∙ sym is) (x ∷ xs) (all_left _ (x ∷ xs) (way w ∷ []) all))).2

-- ---- the bytes of a group

pub no_messages : (texts : List (List ℕ)) → messages_among texts [] ≡ []
no_messages texts = rw (each_none 3, each_none 4) refl

pub messages_nodes : (texts : List (List ℕ)) (es : List EntitySpec) (ns : List NodeSpec) → messages_among texts es ≡ messages_among texts (es ++ map node ns)
messages_nodes texts es ns =
    let none = of_nodes ns in
    rw (ways_append es (map node ns), relations_append es (map node ns), none.1, none.2, append-nil (ways_among es), append-nil (relations_among es)) refl

pushed : {X : Type 0} (number : ℕ) (f : X → List ℕ) (xs : List X) (x : X) → slot_bytes (Each number (map f xs)) ++ slot_bytes (Each number (f x ∷ [])) ≡ slot_bytes (Each number (map f (xs ++ x ∷ [])))
pushed number f xs x = sym (each_joined number (map f xs) (f x ∷ [])) ∙ ap (λ (ms : List (List ℕ)). slot_bytes (Each number ms)) (sym (map_push f xs x))

messages_way : (texts : List (List ℕ)) (es : List EntitySpec) (w : WaySpec) → relations_among es ≡ [] → messages_among texts es ++ slot_bytes (Each 3 (way_message texts w ∷ [])) ≡ messages_among texts (es ++ way w ∷ [])
messages_way texts es w none =
    rw (ways_append es (way w ∷ []), relations_append es (way w ∷ []), none, each_none 4)
    (ap (λ (bs : List ℕ). bs ++ slot_bytes (Each 3 (way_message texts w ∷ []))) (append-nil (slot_bytes (Each 3 (map (way_message texts) (ways_among es))))) ∙ (pushed 3 (way_message texts) (ways_among es) w ∙ sym (append-nil _)))

messages_relation : (texts : List (List ℕ)) (es : List EntitySpec) (r : RelationSpec) → messages_among texts es ++ slot_bytes (Each 4 (relation_message texts r ∷ [])) ≡ messages_among texts (es ++ relation r ∷ [])
messages_relation texts es r =
    rw (ways_append es (relation r ∷ []), relations_append es (relation r ∷ []), append-nil (ways_among es), append_assoc) (ap (λ (bs : List ℕ). slot_bytes (Each 3 (map (way_message texts) (ways_among es))) ++ bs) (pushed 4 (relation_message texts) (relations_among es) r))

group_parts : (texts : List (List ℕ)) (es : List EntitySpec) → group_message texts es ≡ slot_bytes (Each 2 (unless_empty (dense_message texts (nodes_among es)))) ++ messages_among texts es
unfolding group_message
group_parts texts es =
    message_first _ _ ∙ ap (λ (bs : List ℕ). slot_bytes (Each 2 (unless_empty (dense_message texts (nodes_among es)))) ++ bs) (message_first _ _ ∙ ap (λ (bs : List ℕ). slot_bytes (Each 3 (map (way_message texts) (ways_among es))) ++ bs) (message_one _))

-- the message of the nodes comes last in the code and first in the group: one of the two is empty
pub group_closed : (texts : List (List ℕ)) (es : List EntitySpec) → is_block es ≡ true → messages_among texts es ++ slot_bytes (Each 2 (unless_empty (dense_message texts (nodes_among es)))) ≡ group_message texts es
group_closed texts es h =
    rw (group_parts texts es) (elim (nodes_or_others es h) [
      | inl none ↦ rw (none, no_dense texts, each_none 2) (append-nil _)
      | inr none ↦ rw (none.0, none.1, each_none 3, each_none 4) (sym (append-nil _))
    ])

-- ---- nodes

nodes_later : (out : DenseOut) (texts used : List (List ℕ)) (ns : List NodeSpec) → HoldsNodes out texts ns → HoldsNodes out (texts_after texts used) ns
nodes_later out texts used ns h = record { columns = λ more. h.columns (used ++ more) ∙ ap (λ ts. columns_of ts ns) (after_both used more texts) }

-- ---- the block

like : (es : List EntitySpec) (f : EntitySpec) → is_like (likeness_among es) (likeness_of f) ≡ like_first es f
like [] f = refl
like (e ∷ es) f = alike_likeness e f

light : (e : EntitySpec) → EntityFits e → entity_weight e ≤ HIGHEST_WEIGHT
light (node n) h = h.light
light e h = h.light

-- what waits once there is room for an entity and it is added
pub after_room : (joins : Bool) (es : List EntitySpec) (e : EntitySpec) → (if joins then es else []) ++ e ∷ [] ≡ (if joins then es ++ e ∷ [] else e ∷ [])
after_room true es e = refl
after_room false es e = refl

-- an entity that fits may be a block by itself
pub alone : (e : EntitySpec) → EntityFits e → is_block (e ∷ []) ≡ true
alone e h = kept_one e (light e h)

-- the weight of what fits is no more than a u64 holds
pub exact : (e : EntitySpec) (n : ℕ) → EntityFits e → n ≡ min (entity_weight e) (2 ^ 64 - 1) → n ≡ entity_weight e
exact e n h m = let l = light e h in omega (arith, m, l)

-- ---- a message that is appended

-- its field
field_short : (number : ℕ) (message : List ℕ) → length (slot_bytes (Each number (message ∷ []))) ≤ 20 + length message
unfolding slot_bytes
field_short number message = let h = each_short number (message ∷ []) in omega (arith, h)

pub appended : (number : ℕ) (old was new message made : List ℕ) → was ≡ old → message ≡ made → new ≡ was ++ slot_bytes (Each number (message ∷ [])) → new ≡ old ++ slot_bytes (Each number (made ∷ []))
appended number old was new message made e f h = h ∙ rw (e, f) refl

module _ {S H : Type 0} where
  pub none_held : (b : OpenBlock S H) → b.likeness ≡ None → b.count ≡ 0 → b.weight ≡ 0 → b.texts ≡ [] → ((texts : List (List ℕ)) → HoldsNodes b.nodes texts []) → b.group.items ≡ [] → writer_length b.writer ≡ 0 → Holds b []
  none_held b s n w t d g e = record { block = kept_none; likeness = s; count = n; weight = w; texts = t; nodes = d []; messages = λ used. g ∙ sym (no_messages (texts_after [] used)); writer = e }

  pub record Kept (old new : OpenBlock S H) : Type 0 where
    pub likeness : new.likeness ≡ old.likeness
    pub count : new.count ≡ old.count
    pub weight : new.weight ≡ old.weight

  used_now : (old new : OpenBlock S H) (es : List EntitySpec) (e : EntitySpec) → Holds old es → new.texts ≡ texts_after old.texts (entity_texts e) → new.texts ≡ texts_of_all (es ++ e ∷ [])
  used_now old new es e h t = t ∙ (ap (λ ts. texts_after ts (entity_texts e)) h.texts ∙ texts_push es e)

  messages_now : (old : OpenBlock S H) (es : List EntitySpec) (e : EntitySpec) (used : List (List ℕ)) → Holds old es → old.group.items ≡ messages_among (texts_after (texts_of_all (es ++ e ∷ [])) used) es
  messages_now old es e used h = h.messages (entity_texts e ++ used) ∙ ap (λ ts. messages_among ts es) (texts_later es e used)

  nodes_now : (old : OpenBlock S H) (es : List EntitySpec) (e : EntitySpec) → Holds old es → HoldsNodes old.nodes (texts_of_all (es ++ e ∷ [])) (nodes_among es)
  nodes_now old es e h = subst (λ ts. HoldsNodes old.nodes ts (nodes_among es)) (texts_push es e) (nodes_later old.nodes (texts_of_all es) (entity_texts e) (nodes_among es) h.nodes)

  pub node_encoded : (old new : OpenBlock S H) (es : List EntitySpec) (n : NodeSpec) → Holds old es → Kept old new
      → new.texts ≡ texts_after old.texts (node_texts n) → ((ns : List NodeSpec) → HoldsNodes old.nodes old.texts ns → HoldsNodes new.nodes new.texts (ns ++ n ∷ [])) → new.group ≡ old.group
      → new.writer ≡ old.writer → Encodes old new es (node n)
  node_encoded old new es n h k t d g e =
      let now = used_now old new es (node n) h t in
      record {
        likeness = k.likeness;
        count = k.count;
        weight = k.weight;
        texts = now;
        nodes = subst (λ ts. HoldsNodes new.nodes ts (nodes_among (es ++ node n ∷ []))) now
            (subst (λ ns. HoldsNodes new.nodes new.texts ns) (sym (nodes_append es (node n ∷ []))) (d (nodes_among es) (subst (λ ts. HoldsNodes old.nodes ts (nodes_among es)) (sym h.texts) h.nodes)));
        messages = λ used. ap (λ g. g.items) g ∙ (messages_now old es (node n) used h ∙ messages_nodes _ es (n ∷ []));
        writer = ap writer_length e ∙ h.writer;
      }

  -- another entity, whose message is appended
  other_encoded : (old new : OpenBlock S H) (es : List EntitySpec) (e : EntitySpec) (number : ℕ) (message_of : List (List ℕ) → List ℕ) → Holds old es → Kept old new → nodes_among (es ++ e ∷ []) ≡ nodes_among es
      → ((texts : List (List ℕ)) → messages_among texts es ++ slot_bytes (Each number (message_of texts ∷ [])) ≡ messages_among texts (es ++ e ∷ []))
      → new.texts ≡ texts_after old.texts (entity_texts e) → new.nodes ≡ old.nodes → ((used : List (List ℕ)) → new.group.items ≡ old.group.items ++ slot_bytes (Each number (message_of (texts_after new.texts used) ∷ [])))
      → writer_length new.writer ≡ 0 → Encodes old new es e
  other_encoded old new es e number message_of h k same more t d g w =
      let now = used_now old new es e h t in
      let all = texts_of_all (es ++ e ∷ []) in
      record {
        likeness = k.likeness;
        count = k.count;
        weight = k.weight;
        texts = now;
        nodes = subst (λ ns. HoldsNodes new.nodes all ns) (sym same) (subst (λ out. HoldsNodes out all (nodes_among es)) (sym d) (nodes_now old es e h));
        messages = λ used.
            g used ∙ (ap (λ ts. old.group.items ++ slot_bytes (Each number (message_of (texts_after ts used) ∷ []))) now
            ∙ (ap (λ (bs : List ℕ). bs ++ slot_bytes (Each number (message_of (texts_after all used) ∷ []))) (messages_now old es e used h) ∙ more (texts_after all used)));
        writer = w;
      }

  pub way_encoded : (old new : OpenBlock S H) (es : List EntitySpec) (w : WaySpec) → Holds old es → Kept old new → is_block (es ++ way w ∷ []) ≡ true
      → new.texts ≡ texts_after old.texts (way_texts w) → new.nodes ≡ old.nodes → ((used : List (List ℕ)) → new.group.items ≡ old.group.items ++ slot_bytes (Each 3 (way_message (texts_after new.texts used) w ∷ [])))
      → writer_length new.writer ≡ 0 → Encodes old new es (way w)
  way_encoded old new es w h k join t d g e =
      other_encoded old new es (way w) 3 (λ texts. way_message texts w) h k (nodes_append es (way w ∷ []) ∙ append-nil _) (λ texts. messages_way texts es w (before_way es w join)) t d g e

  pub relation_encoded : (old new : OpenBlock S H) (es : List EntitySpec) (r : RelationSpec) → Holds old es → Kept old new
      → new.texts ≡ texts_after old.texts (relation_texts r) → new.nodes ≡ old.nodes → ((used : List (List ℕ)) → new.group.items ≡ old.group.items ++ slot_bytes (Each 4 (relation_message (texts_after new.texts used) r ∷ [])))
      → writer_length new.writer ≡ 0 → Encodes old new es (relation r)
  relation_encoded old new es r h k t d g e =
      other_encoded old new es (relation r) 4 (λ texts. relation_message texts r) h k (nodes_append es (relation r ∷ []) ∙ append-nil _) (λ texts. messages_relation texts es r) t d g e

  -- what is held while the message of an entity is appended: all that waits, the entity's texts, columns and message, and its field
  pub entity_held : (b : OpenBlock S H) (es : List EntitySpec) (e : EntitySpec) (number most : ℕ) (texts : List (List ℕ)) (message : List ℕ) (out : EntityOut) → Holds b es → is_block (es ++ e ∷ []) ≡ true → texts ≡ texts_after b.texts (entity_texts e)
      → out.message.items ≡ message → 4 * (sum_by text_held (entity_texts e) + most + (20 + length message)) ≤ 9 * entity_weight e + 1216 → writer_length out ≤ most
      → sum_by text_held texts + dense_length (columns_held b.nodes) + length b.group.items + writer_length out + length (slot_bytes (Each number (out.message.items ∷ []))) ≤ MOST_HELD
  entity_held b es e number most texts message out h join t m beside held =
      let ts = ap (λ (ts : List (List ℕ)). sum_by text_held ts) (t ∙ ap (λ (ts : List (List ℕ)). texts_after ts (entity_texts e)) h.texts) in
      let columns = ap dense_length (h.nodes.columns []) in
      let messages = ap (λ (bs : List ℕ). length bs) (h.messages []) in
      let made = ap (λ (bs : List ℕ). length bs) m in
      let light = (kept_bounds (es ++ e ∷ []) join).1 in
      omega (arith, ts, after_held (texts_of_all es) (entity_texts e), columns, messages, made, beside, held, light, sum_by_push entity_weight es e, open_short (texts_of_all es) es, field_short number out.message.items)

  -- an entity that is encoded and counted
  pub added : (old new block : OpenBlock S H) (es : List EntitySpec) (e : EntitySpec) → Holds old es → is_block (es ++ e ∷ []) ≡ true → Encodes old new es e
      → block.likeness ≡ Some (unwrap_or new.likeness (likeness_of e)) → block.count ≡ new.count + 1 → block.weight ≡ new.weight + entity_weight e → block.texts ≡ new.texts → block.nodes ≡ new.nodes → block.group ≡ new.group → block.writer ≡ new.writer
      → Holds block (es ++ e ∷ [])
  added old new block es e h join n s c w t d g r = record {
    block = join;
    likeness = s ∙ (ap (λ o. Some (unwrap_or o (likeness_of e))) (n.likeness ∙ h.likeness) ∙ sym (likeness_push es e));
    count = c ∙ (ap (λ k. k + 1) (n.count ∙ h.count) ∙ sym (length_push es e));
    weight = w ∙ (ap (λ k. k + entity_weight e) (n.weight ∙ h.weight) ∙ sym (sum_by_push entity_weight es e));
    texts = t ∙ n.texts;
    nodes = subst (λ out. HoldsNodes out (texts_of_all (es ++ e ∷ [])) (nodes_among (es ++ e ∷ []))) (sym d) n.nodes;
    messages = λ used. ap (λ g. g.items) g ∙ n.messages used;
    writer = ap writer_length r ∙ n.writer;
  }

  -- the same, by what decided whether it may join
  pub joined : (old new block : OpenBlock S H) (es : List EntitySpec) (e : EntitySpec) (joining : Joining) → Holds old es → is_block (es ++ e ∷ []) ≡ true → Encodes old new es e → IsJoining joining e → Counts new block joining
      → Holds block (es ++ e ∷ [])
  joined old new block es e joining h join n is k =
      added old new block es e h join n (k.likeness ∙ ap (λ l. Some (unwrap_or new.likeness l)) is.likeness) k.count (k.weight ∙ ap (λ m. new.weight + m) is.weight) k.texts k.nodes k.group k.writer

  pub room_held : (b : OpenBlock S H) (es : List EntitySpec) (e : EntitySpec) → Holds b es → is_block (es ++ e ∷ []) ≡ true → length b.texts + length (entity_texts e) ≤ 1048575
  room_held b es e h join = rw h.texts (omega (arith, room es (e ∷ []) join, ap (λ (ts : List (List ℕ)). length ts) (append-nil (entity_texts e))))

  pub bounds : (b : OpenBlock S H) (es : List EntitySpec) (e : EntitySpec) → Holds b es → is_block (es ++ e ∷ []) ≡ true → (b.count + 1 ≤ MOST_ENTITIES) × (b.weight + entity_weight e ≤ HIGHEST_WEIGHT)
  bounds b es e h join =
      let n = kept_bounds (es ++ e ∷ []) join in
      (omega (arith, n.0, h.count, length_push es e), omega (arith, n.1, h.weight, sum_by_push entity_weight es e))

  -- whether an entity may join, as the code finds it
  pub taken : (b : OpenBlock S H) (es : List EntitySpec) (e : EntitySpec) (alike : Bool) (more : ℕ) (answer : Bool) → Holds b es → alike ≡ is_like b.likeness (likeness_of e) → more ≡ entity_weight e
      → answer ≡ (alike && (nat_le (b.count + 1) MOST_ENTITIES && nat_le (b.weight + more) HIGHEST_WEIGHT)) → answer ≡ is_block (es ++ e ∷ [])
  taken b es e alike more answer h a m r =
      r ∙ (rw (a, h.likeness, like es e, h.count, h.weight, m) refl ∙ joins es e h.block)

  -- ---- a block that is closed

  -- its texts, and their table beside them
  pub table_held : (b : OpenBlock S H) (table : List ℕ) → IsOpen b → table ≡ table_message b.texts → block_held b + length table ≤ MOST_HELD
  table_held b table o t =
      let es = o.entities in
      let h = o.held in
      let texts = ap (λ (ts : List (List ℕ)). sum_by text_held ts) h.texts in
      let columns = ap dense_length (h.nodes.columns []) in
      let messages = ap (λ (bs : List ℕ). length bs) (h.messages []) in
      let long = ap (λ (bs : List ℕ). length bs) (t ∙ ap table_message h.texts) in
      omega (arith, texts, columns, messages, h.writer, long, table_fits (texts_of_all es) es h.block)

  -- its group, once the message of its nodes is in it
  pub group_whole : (b : OpenBlock S H) (es : List EntitySpec) (dense group : List ℕ) → Holds b es → dense ≡ dense_message (texts_of_all es) (nodes_among es)
      → group ≡ b.group.items ++ slot_bytes (Each 2 (unless_empty dense)) → group ≡ group_message (texts_of_all es) es
  group_whole b es dense group h d g =
      g ∙ (ap (λ (bs : List ℕ). b.group.items ++ slot_bytes (Each 2 (unless_empty bs))) d
      ∙ (ap (λ (bs : List ℕ). bs ++ slot_bytes (Each 2 (unless_empty (dense_message (texts_of_all es) (nodes_among es))))) (h.messages []) ∙ group_closed (texts_of_all es) es h.block))

  -- the message of its nodes, beside its columns and the table
  pub nodes_held : (b : OpenBlock S H) (es : List EntitySpec) → Holds b es
      → length (table_message b.texts) + (dense_length (columns_held b.nodes) + length b.group.items) + length (dense_message (texts_of_all es) (nodes_among es)) ≤ MOST_HELD
  nodes_held b es h =
      let table = ap (λ (ts : List (List ℕ)). length (table_message ts)) h.texts in
      let columns = ap dense_length (h.nodes.columns []) in
      let messages = ap (λ (bs : List ℕ). length bs) (h.messages []) in
      omega (arith, table, columns, messages, nodes_fit (texts_of_all es) es h.block)

  -- the same message in the group, beside itself and the table
  pub group_held : (b : OpenBlock S H) (es : List EntitySpec) (group : List ℕ) → Holds b es → group ≡ group_message (texts_of_all es) es
      → length (table_message b.texts) + length (dense_message (texts_of_all es) (nodes_among es)) + length group ≤ MOST_HELD
  group_held b es group h g =
      let table = ap (λ (ts : List (List ℕ)). length (table_message ts)) h.texts in
      let whole = ap (λ (bs : List ℕ). length bs) g in
      omega (arith, table, whole, group_fits (texts_of_all es) es h.block)

  -- nothing else is held then
  pub nothing_else : (b : OpenBlock S H) (es : List EntitySpec) (texts : List (List ℕ)) (nodes : DenseOut) → Holds b es → texts ≡ [] → HoldsNodes nodes [] []
      → sum_by text_held texts + dense_length (columns_held nodes) + writer_length b.writer ≡ 0
  nothing_else b es texts nodes h t n = omega (arith, ap (λ (ts : List (List ℕ)). sum_by text_held ts) t, ap dense_length (n.columns []), h.writer)

  -- its bytes
  pub closed : (b : OpenBlock S H) (es : List EntitySpec) (scale : Scale) (table payload : List ℕ) → IsClosing b table es → scale ≡ scale_among es
      → ((texts : List (List ℕ)) → table ≡ table_message texts → payload ≡ message (block_slots scale texts b.group.items)) → payload ≡ block_message es
  unfolding block_message
  closed b es scale table payload c s p = p (texts_of_all es) c.table ∙ rw (s, c.group) refl

  -- table, group and bytes beside each other
  pub closing_held : (b : OpenBlock S H) (es : List EntitySpec) (table payload : List ℕ) → IsClosing b table es → payload ≡ block_message es → block_held b + length table + length payload ≤ MOST_HELD
  closing_held b es table payload c p =
      let tables = ap (λ (bs : List ℕ). length bs) c.table in
      let groups = ap (λ (bs : List ℕ). length bs) c.group in
      let whole = ap (λ (bs : List ℕ). length bs) p in
      omega (arith, c.rest, tables, groups, whole, closing_fits es c.block)

  -- a block without entities holds no others
  pub only_none : (b : OpenBlock S H) (es : List EntitySpec) → Holds b [] → Holds b es → es ≡ []
  only_none b [] h k = refl
  only_none b (e ∷ es) h k = absurd (omega (arith, h.count, k.count))

  -- what it holds
  pub held_bounded : (b : OpenBlock S H) → IsOpen b → block_held b ≤ MOST_HELD
  held_bounded b o =
      let es = o.entities in
      let h = o.held in
      let texts = ap (λ (ts : List (List ℕ)). sum_by text_held ts) h.texts in
      let columns = ap dense_length (h.nodes.columns []) in
      let messages = ap (λ (bs : List ℕ). length bs) (h.messages []) in
      omega (arith, texts, columns, messages, h.writer, open_short (texts_of_all es) es, (kept_bounds es h.block).1)

-- ---- nodes that are added to an open block many at a time

nodes_many : (es : List EntitySpec) (ns : List NodeSpec) → nodes_among (es ++ map node ns) ≡ nodes_among es ++ ns
nodes_many es ns = nodes_append es (map node ns) ∙ ap (λ (l : List NodeSpec). nodes_among es ++ l) (of_nodes ns).0

texts_many : (es : List EntitySpec) (ns : List NodeSpec) → texts_after (texts_of_all es) (flat_map node_texts ns) ≡ texts_of_all (es ++ map node ns)
texts_many es ns = ap (texts_after (texts_of_all es)) (sym (flat_map-map entity_texts node ns)) ∙ sym (texts_append es (map node ns))

-- texts that are used after these nodes are used after those of the nodes
used_many : (es : List EntitySpec) (ns : List NodeSpec) (used : List (List ℕ)) → texts_after (texts_of_all es) (flat_map node_texts ns ++ used) ≡ texts_after (texts_of_all (es ++ map node ns)) used
used_many es ns used = used_later (texts_of_all es) (texts_of_all (es ++ map node ns)) (flat_map node_texts ns) used (sym (texts_many es ns))

weights_of : (ns : List NodeSpec) → sum_by entity_weight (map node ns) ≡ sum_by node_weight ns
weights_of [] = refl
weights_of (n ∷ ns) = omega (arith, weights_of ns, sum_by-cons node_weight n ns, sum_by-cons entity_weight (node n) (map node ns))

weight_many : (es : List EntitySpec) (ns : List NodeSpec) → sum_by entity_weight (es ++ map node ns) ≡ sum_by entity_weight es + sum_by node_weight ns
weight_many es ns = omega (arith, sum_by-append entity_weight es (map node ns), weights_of ns)

length_many : (es : List EntitySpec) (ns : List NodeSpec) → length (es ++ map node ns) ≡ length es + length ns
length_many es ns = omega (arith, length-append es (map node ns), length-map ns node)

-- nodes that are like the first entity of a block may join it, if they aren't too many or too heavy
block_many : (x : EntitySpec) (xs : List EntitySpec) (ns : List NodeSpec) → is_block (x ∷ xs) ≡ true → AllByRecursion (λ n. are_alike x (node n) ≡ true) ns → length (x ∷ xs) + length ns ≤ MOST_ENTITIES
    → sum_by entity_weight (x ∷ xs) + sum_by node_weight ns ≤ HIGHEST_WEIGHT → is_block (x ∷ (xs ++ map node ns)) ≡ true
block_many x xs ns h like few light =
    let all : list_all (λ n. are_alike x (node n)) ns ≡ true = list_all-from_AllPass _ ns (All-from_recursion _ ns like) in
    block_from (x ∷ (xs ++ map node ns)) (record {
      alike = list_all-append (are_alike x) xs (map node ns) ∙ ap₂ (λ a b. a && b) (block_parts (x ∷ xs) h).alike (list_all-map (are_alike x) node ns ∙ all);
      few = omega (arith, few, length_many xs ns);
      light = omega (arith, light, weight_many (x ∷ xs) ns);
    })

-- there is room for the texts of nodes that may join
room_many : (es : List EntitySpec) (ns : List NodeSpec) → is_block (es ++ map node ns) ≡ true → length (texts_of_all es) + length (flat_map node_texts ns) ≤ 1048575
room_many es ns h = omega (arith, room es (map node ns) h, ap (λ (ts : List (List ℕ)). length ts) (flat_map-map entity_texts node ns))

-- ---- in the block that is open

-- what the block has, and nodes that are to join it: all are like its entities, and they are neither too many nor too heavy
pub record MayJoin (count weight : ℕ) (ns : List NodeSpec) : Type 0 where
  pub few : count + length ns ≤ MOST_ENTITIES
  pub light : weight + sum_by node_weight ns ≤ HIGHEST_WEIGHT

module _ {S H : Type 0} where
  abbrev pub AreLike : OpenBlock S H → List NodeSpec → Type 0
  AreLike b ns = AllByRecursion (λ (n : NodeSpec). has_like b.likeness (likeness_of (node n)) ≡ true) ns

  alike_to : (x : EntitySpec) (xs : List EntitySpec) (b : OpenBlock S H) (ns : List NodeSpec) → b.likeness ≡ likeness_among (x ∷ xs) → AreLike b ns → AllByRecursion (λ n. are_alike x (node n) ≡ true) ns
  alike_to x xs b [] is like = tt
  alike_to x xs b (n ∷ ns) is like = (sym (alike_likeness x (node n)) ∙ (ap (λ l. has_like l (likeness_of (node n))) (sym is) ∙ like.0), alike_to x xs b ns is like.1)

  pub many_join : (b : OpenBlock S H) (es : List EntitySpec) (ns : List NodeSpec) → Holds b es → AreLike b ns → MayJoin b.count b.weight ns → is_block (es ++ map node ns) ≡ true
  many_join b es [] h like may = ap is_block (append-nil es) ∙ h.block
  many_join b [] (n ∷ ns) h like may = absurd (true≢false (sym like.0 ∙ ap (λ l. has_like l (likeness_of (node n))) h.likeness))
  many_join b (x ∷ xs) (n ∷ ns) h like may =
      block_many x xs (n ∷ ns) h.block (alike_to x xs b (n ∷ ns) h.likeness like) (omega (arith, may.few, h.count)) (omega (arith, may.light, h.weight))

  pub many_room : (b : OpenBlock S H) (es : List EntitySpec) (ns : List NodeSpec) → Holds b es → AreLike b ns → MayJoin b.count b.weight ns → length b.texts + length (flat_map node_texts ns) ≤ 1048575
  many_room b es ns h like may = rw h.texts (room_many es ns (many_join b es ns h like may))

  likeness_many : (b : OpenBlock S H) (es : List EntitySpec) (ns : List NodeSpec) → Holds b es → AreLike b ns → likeness_among es ≡ likeness_among (es ++ map node ns)
  likeness_many b es [] h like = ap likeness_among (sym (append-nil es))
  likeness_many b [] (n ∷ ns) h like = absurd (true≢false (sym like.0 ∙ ap (λ l. has_like l (likeness_of (node n))) h.likeness))
  likeness_many b (x ∷ xs) (n ∷ ns) h like = refl

  -- nodes that are encoded and counted
  pub many_added : (old new : OpenBlock S H) (es : List EntitySpec) (ns : List NodeSpec) → Holds old es → AreLike old ns → MayJoin old.count old.weight ns
      → new.likeness ≡ old.likeness → new.count ≡ old.count + length ns → new.weight ≡ old.weight + sum_by node_weight ns → new.texts ≡ texts_after old.texts (flat_map node_texts ns)
      → ((ms : List NodeSpec) → HoldsNodes old.nodes old.texts ms → HoldsNodes new.nodes new.texts (ms ++ ns)) → new.group ≡ old.group → new.writer ≡ old.writer → Holds new (es ++ map node ns)
  many_added old new es ns h like may s c w t d g e =
      let now : new.texts ≡ texts_of_all (es ++ map node ns) = t ∙ (ap (λ (ts : List (List ℕ)). texts_after ts (flat_map node_texts ns)) h.texts ∙ texts_many es ns) in
      record {
        block = many_join old es ns h like may;
        likeness = s ∙ (h.likeness ∙ likeness_many old es ns h like);
        count = omega (arith, c, h.count, length_many es ns);
        weight = omega (arith, w, h.weight, weight_many es ns);
        texts = now;
        nodes = subst (λ ts. HoldsNodes new.nodes ts (nodes_among (es ++ map node ns))) now
            (subst (λ (l : List NodeSpec). HoldsNodes new.nodes new.texts l) (sym (nodes_many es ns)) (d (nodes_among es) (subst (λ ts. HoldsNodes old.nodes ts (nodes_among es)) (sym h.texts) h.nodes)));
        messages = λ used.
            ap (λ g. g.items) g ∙ (h.messages (flat_map node_texts ns ++ used) ∙ (ap (λ ts. messages_among ts es) (used_many es ns used) ∙ messages_nodes _ es ns));
        writer = ap writer_length e ∙ h.writer;
      }
