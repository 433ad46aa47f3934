-- What is gathered of frames.
use Rattle.std.proofs.Common.{arith}
use Rattle.std.proofs.Common.{◌≡◌, ℤ, Bool, cond, true, false, true≢false, rules, Option, Some, None, List, [], ◌∷◌, ◌++◌, map, refl, sym, ap, ◌∙◌}
use Rattle.std.specs.Prelude.{filter, is_none}
use Rattle.std.specs.Iterator.{YieldsFirst}
use Rattle.std.specs.List.{fold}
use Rattle.std.proofs.lemmas.List.Sums.{fold-append}
use Rattle.osm_entity.specs.Entity.{NodeSpec, EntitySpec, TagSpec, node}
use Rattle.osm_area.specs.Area.{AreaSpec, box_area}
use Rattle.osm_box.specs.declared.bounding_box.BoundingBox.{BoundingBox}
use Rattle.osm_ways.specs.declared.in_area.InArea.{InArea}
use Rattle.osm_ways.specs.InArea.{stepped}
use Rattle.osm_ways.specs.Phases.{KeptSets, PassesOver, RelationSets, WaySets}
use Rattle.osm_ways.specs.Selection.{Seen, a_node}
use Rattle.osm_ways.specs.Whole.{is_wanted}
use Rattle.pbf_dense.specs.declared.places.Place.{Place}
use Rattle.pbf_dense.specs.declared.places.Places.{Places}
use Rattle.pbf_dense.specs.Places.{node_place, places_left, id_of}
use Rattle.pbf_dense.specs.Within.{lies_in, ids_within}
use Rattle.pbf_block.specs.declared.kinds.Kinds.{Kinds}
use Rattle.pbf_block.specs.Kinds.{is_among}
use Rattle.pbf_block.specs.Runs.{joined_runs}
use Rattle.pbf_frame.specs.Frames.{FrameSpec}
use Rattle.pbf_pass.specs.Counting.{stored_entities, frame_entities}
use Rattle.pbf_pass.specs.Pass.{as_it_was, with_inside, with_seen, with_seen_in, with_way, with_relation, with_added_way}
use Rattle.pbf_pass.proofs.CountLemmas.{stored_one}

-- one frame more is gathered
pub gathered_one : {S : Type 0} (gathered : S → EntitySpec → S) (fs : List FrameSpec) (f : FrameSpec) (first before now : S)
    → before ≡ fold gathered first (stored_entities fs) → now ≡ fold gathered before (frame_entities f) → now ≡ fold gathered first (stored_entities (fs ++ f ∷ []))
gathered_one gathered fs f first before now so_far step = grind (arith, fold-append gathered first (stored_entities fs) (frame_entities f), stored_one fs f)

-- ---- entities of the kinds that matter

module _ {S : Type 0} (gathered : S → EntitySpec → S) (kinds : Kinds) (ignored : (s : S) (e : EntitySpec) → is_among kinds e ≡ false → gathered s e ≡ s) where
  gathered_next : (s : S) (e : EntitySpec) (es : List EntitySpec) (b : Bool) → is_among kinds e ≡ b → ((t : S) → fold gathered t (filter (is_among kinds) es) ≡ fold gathered t es)
      → fold gathered s (filter (is_among kinds) (e ∷ es)) ≡ fold gathered s (e ∷ es)
  gathered_next s e es b h4 h5 = grind arith

  -- gathering only these gives what gathering all does
  pub gathered_among : (s : S) (es : List EntitySpec) → fold gathered s (filter (is_among kinds) es) ≡ fold gathered s es
  gathered_among s [] = refl
  gathered_among s (e ∷ es) = gathered_next s e es (is_among kinds e) refl (λ t. gathered_among t es)

-- ---- runs

-- a run more is gathered
pub gathered_run : {S : Type 0} (gathered : S → EntitySpec → S) (before now all : S) (run : List EntitySpec) (left rest : List (List EntitySpec))
    → left ≡ run ∷ rest → now ≡ fold gathered before run → fold gathered before (joined_runs left) ≡ all → fold gathered now (joined_runs rest) ≡ all
gathered_run gathered before now all run left rest is step so_far = grind (arith, fold-append gathered before run (joined_runs rest))

-- ---- nodes of a dense message

-- beside the area the phase takes what it takes by itself
pub beside : {A S : Type 0} (area : A → AreaSpec) (step : S → Seen → S) (of : InArea A S) (es : List EntitySpec) → record of { phase = fold (with_seen (is_wanted of.types) (area of.area) step) of.phase es } ≡ fold (with_seen_in area step) of es
beside area step of [] = refl
beside area step of (e ∷ es) = beside area step (with_seen_in area step of e) es

nothing_more : (p : Place) (ps : List Place) → ◌≡◌ {A = List Place} [] (p ∷ ps) → ⊥
nothing_more p ps e = search rules

-- if there is no first place, there is no node
pub none_within : {S : Type 0} (gathered : S → EntitySpec → S) (it more : Places) (first : Option Place) (s : S) (ns : List NodeSpec) → YieldsFirst places_left it first more → is_none first ≡ true → places_left it ≡ map node_place ns
    → s ≡ fold gathered s (map node ns)
none_within gathered it more None s [] steps none are = refl
none_within gathered it more None s (n ∷ ns) steps none are = absurd (nothing_more _ _ (sym steps.0 ∙ are))
none_within gathered it more (Some place) s ns steps none are = absurd (true≢false (sym none))

-- by the ids of those in a box
module _ {S : Type 0} (whole : List TagSpec → Bool) (step : S → Seen → S) (alike : PassesOver step) (area : BoundingBox) where
  abbrev with_box : S → EntitySpec → S
  with_box = with_seen whole (box_area area) step

  -- a node outside changes nothing
  abbrev IsBegun : S → Type 0
  IsBegun sets = (id : ℤ) → step sets (a_node id false) ≡ sets

  inside_next : (sets : S) (n : NodeSpec) (ns : List NodeSpec) (there : Bool) → IsBegun sets
      → fold (with_inside step) sets (map id_of (cond there (n ∷ ns) ns)) ≡ fold (with_inside step) (step sets (a_node n.id there)) (map id_of ns)
  inside_next sets n ns there h4 = grind arith

  inside_gathered : (sets : S) (ns : List NodeSpec) → IsBegun sets → fold (with_inside step) sets (ids_within area ns) ≡ fold with_box sets (map node ns)
  inside_gathered sets [] begun = refl
  inside_gathered sets (n ∷ ns) begun = grind (arith, inside_next sets n (filter (lies_in area) ns) (lies_in area n) begun, inside_gathered (with_box sets (node n)) ns (λ id. alike.after sets n.id id (lies_in area n)), alike.after sets n.id)

  -- if there is a first place
  pub some_within : (it more : Places) (first : Option Place) (sets begun : S) (ns : List NodeSpec) → YieldsFirst places_left it first more → is_none first ≡ false → places_left it ≡ map node_place ns
      → ((id : ℤ) → begun ≡ step sets (a_node id false)) → fold (with_inside step) begun (ids_within area ns) ≡ fold with_box sets (map node ns)
  some_within it more None sets begun ns steps some are is = absurd (true≢false some)
  some_within it more (Some place) sets begun [] steps some are is = absurd (nothing_more _ _ (sym are ∙ steps))
  some_within it more (Some place) sets begun (n ∷ ns) steps some are is = grind (arith, inside_gathered begun (n ∷ ns) (λ id. ap (λ (s : S). step s (a_node id false)) (is id) ∙ alike.after sets id id false ∙ sym (is id)), alike.after sets, is n.id, alike.before sets n.id n.id (lies_in area n))

-- if nodes don't matter
pub nodes_left_out : {S : Type 0} (s : S) (ns : List NodeSpec) → s ≡ fold as_it_was s (map node ns)
nodes_left_out s [] = refl
nodes_left_out s (n ∷ ns) = nodes_left_out s ns

pub ways_of_nodes : (sets : WaySets) (ns : List NodeSpec) → sets ≡ fold with_way sets (map node ns)
ways_of_nodes sets [] = refl
ways_of_nodes sets (n ∷ ns) = ways_of_nodes sets ns

pub relations_of_nodes : (sets : RelationSets) (ns : List NodeSpec) → sets ≡ fold with_relation sets (map node ns)
relations_of_nodes sets [] = refl
relations_of_nodes sets (n ∷ ns) = relations_of_nodes sets ns

pub added_ways_of_nodes : (sets : KeptSets) (ns : List NodeSpec) → sets ≡ fold with_added_way sets (map node ns)
added_ways_of_nodes sets [] = refl
added_ways_of_nodes sets (n ∷ ns) = added_ways_of_nodes sets ns
