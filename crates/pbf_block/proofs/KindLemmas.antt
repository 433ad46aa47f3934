-- The entities of some kinds, field by field, are those of the whole list that are of these kinds.
use Rattle.std.proofs.Common.{◌≡◌, ℕ, Bool, true, false, List, [], ◌∷◌, ◌++◌, map, refl, ap, ap₂, sym, ◌∙◌}
use Rattle.std.specs.Prelude.{filter, if◌then◌else◌, ◌==◌}
use Rattle.std.specs.List.{flat_map}
use Rattle.std.proofs.lemmas.List.Elements.{filter-append}
use Rattle.pbf_wire.specs.Faults.{inside, fields_in}
use Rattle.pbf_wire.specs.Occurrence.{Content, Bytes, Occurrence}
use Rattle.osm_entity.specs.declared.scale.Scale.{Scale}
use Rattle.osm_entity.specs.Entity.{NodeSpec, EntitySpec, node}
use Rattle.pbf_block.specs.Group.{in_group, message_entities, member_entities}
use Rattle.pbf_block.specs.declared.kinds.Kinds.{Kinds}
use Rattle.pbf_block.specs.declared.primitive_block.TheConstants.{PRIMITIVEGROUP}
use Rattle.pbf_block.specs.declared.group.TheConstants.{NODES, DENSE, WAYS, RELATIONS}
use Rattle.pbf_block.specs.Entity.{Decoding}
use Rattle.pbf_block.specs.Kinds.{is_among, holds_kind, member_entities_among, group_entities_among, entities_among}

-- all are of all kinds
pub filter_every : (p : EntitySpec → Bool) → ((e : EntitySpec) → p e ≡ true) → (es : List EntitySpec) → filter p es ≡ es
filter_every p every [] = refl
filter_every p every (e ∷ es) = rw (every e) (ap (λ (rest : List EntitySpec). e ∷ rest) (filter_every p every es))

-- what is kept of joined parts
kept_parts : {X : Type 0} (p : EntitySpec → Bool) (f g : X → List EntitySpec) → ((x : X) → g x ≡ filter p (f x)) → (xs : List X) → flat_map g xs ≡ filter p (flat_map f xs)
kept_parts p f g same [] = refl
kept_parts p f g same (x ∷ xs) = ap₂ (λ (a b : List EntitySpec). a ++ b) (same x) (kept_parts p f g same xs) ∙ sym (filter-append p (f x) (flat_map f xs))

kept_nodes : (kinds : Kinds) (ns : List NodeSpec) (b : Bool) → kinds.nodes ≡ b → filter (is_among kinds) (map node ns) ≡ (if b then map node ns else [])
kept_nodes kinds [] true e = refl
kept_nodes kinds [] false e = refl
kept_nodes kinds (n ∷ ns) true e = rw e (ap (λ (rest : List EntitySpec). node n ∷ rest) (kept_nodes kinds ns true e))
kept_nodes kinds (n ∷ ns) false e = rw e (kept_nodes kinds ns false e)

abbrev no_entities : List EntitySpec
no_entities = []

-- one field of a group, by which of the four it is
choose : (p : EntitySpec → Bool) (is_node is_dense is_way is_relation nodes ways relations : Bool) (a b c d : List EntitySpec)
    → (if nodes then a else []) ≡ filter p a → (if nodes then b else []) ≡ filter p b → (if ways then c else []) ≡ filter p c → (if relations then d else []) ≡ filter p d
    → (if (if is_node then nodes else (if is_dense then nodes else (if is_way then ways else (if is_relation then relations else false)))) then (if is_node then a else (if is_dense then b else (if is_way then c else (if is_relation then d else [])))) else [])
    ≡ filter p (if is_node then a else (if is_dense then b else (if is_way then c else (if is_relation then d else []))))
choose p true is_dense is_way is_relation nodes ways relations a b c d ha hb hc hd = ha
choose p false true is_way is_relation nodes ways relations a b c d ha hb hc hd = hb
choose p false false true is_relation nodes ways relations a b c d ha hb hc hd = hc
choose p false false false true nodes ways relations a b c d ha hb hc hd = hd
choose p false false false false nodes ways relations a b c d ha hb hc hd = refl

none_either : (b : Bool) → (if b then no_entities else []) ≡ []
none_either true = refl
none_either false = refl

module _ (kinds : Kinds) (how : Decoding) (table : List (List ℕ)) (scale : Scale) where
  message_kept : (k : ℕ) (os : List Occurrence) → (if holds_kind kinds k then message_entities how table scale k os else []) ≡ filter (is_among kinds) (message_entities how table scale k os)
  message_kept k os =
      choose (is_among kinds) (k == NODES) (k == DENSE) (k == WAYS) (k == RELATIONS) kinds.nodes kinds.ways kinds.relations _ _ _ _
      refl
      (sym (kept_nodes kinds (how.dense table scale os) kinds.nodes refl))
      refl
      refl

  content_kept : (k : ℕ) (c : Content)
      → (if holds_kind kinds k then inside (λ at m. message_entities how table scale k (fields_in at m)) c else []) ≡ filter (is_among kinds) (inside (λ at m. message_entities how table scale k (fields_in at m)) c)
  content_kept k (Bytes bytes at) = message_kept k (fields_in at bytes)
  content_kept k c = none_either (holds_kind kinds k)

  member_kept : (o : Occurrence) → member_entities_among kinds how table scale o ≡ filter (is_among kinds) (member_entities how table scale o)
  member_kept o = content_kept o.number o.content

  inner_kept : (c : Content)
      → inside (λ at m. flat_map (member_entities_among kinds how table scale) (fields_in at m)) c ≡ filter (is_among kinds) (inside (λ at m. flat_map (member_entities how table scale) (fields_in at m)) c)
  inner_kept (Bytes bytes at) = kept_parts (is_among kinds) (member_entities how table scale) (member_entities_among kinds how table scale) member_kept (fields_in at bytes)
  inner_kept c = refl

  if_group : (b : Bool) (x y : List EntitySpec) → x ≡ filter (is_among kinds) y → (if b then x else []) ≡ filter (is_among kinds) (if b then y else [])
  if_group true x y e = e
  if_group false x y e = refl

  group_kept : (o : Occurrence) → group_entities_among kinds how table scale o ≡ filter (is_among kinds) (in_group (member_entities how table scale) o)
  group_kept o = if_group (o.number == PRIMITIVEGROUP) _ _ (inner_kept o.content)

  pub all_kept : (os : List Occurrence) → entities_among kinds how table scale os ≡ filter (is_among kinds) (flat_map (in_group (member_entities how table scale)) os)
  all_kept os = kept_parts (is_among kinds) (in_group (member_entities how table scale)) (group_entities_among kinds how table scale) group_kept os

-- if all kinds are wanted, a field gives all its entities
pub member_of_all : (kinds : Kinds) (how : Decoding) (table : List (List ℕ)) (scale : Scale) → ((e : EntitySpec) → is_among kinds e ≡ true) → (o : Occurrence) → member_entities_among kinds how table scale o ≡ member_entities how table scale o
member_of_all kinds how table scale all o = member_kept kinds how table scale o ∙ filter_every (is_among kinds) all (member_entities how table scale o)
