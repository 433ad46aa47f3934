-- What a payload is whose first phases have no fault: its groups, their messages, and its table.
use Rattle.std.proofs.Common.{◌≡◌, ℕ, List, [], ◌∷◌, ap, ap₂, sym, ◌∙◌, length, ◌==◌, Bool, true, false, cond, eqb, ◌++◌, refl, arith, ◌≤◌}
use Rattle.std.specs.Prelude.{Option, Some, None, if◌then◌else◌, nat_lt}
use Rattle.std.specs.Option.{option_map, option_or}
use Rattle.pbf_wire.specs.declared.fault.Fault.{Fault}
use Rattle.pbf_wire.specs.Least.{least_by, least}
use Rattle.pbf_wire.specs.Phases.{first_fault, phase_rank}
use Rattle.pbf_wire.proofs.PhaseLemmas.{phases_joined as joined}
use Rattle.pbf_wire.proofs.SoundLemmas.{no_least, both_none, option_last, both_nil, all_nil, fields_sound, IsSound, not_wrong, last_holds}
use Rattle.pbf_block.specs.PrimitiveBlock.{wire_faults, structure_faults, payload_weights, block_phases, block_fault, all_faults, value_faults, part_wire, part_structure, table_structure}
use Rattle.pbf_wire.specs.Faults.{fields_in, inside, entered, nested_faults, twice}
use Rattle.pbf_block.specs.Scale.{stored_texts}
use Rattle.std.specs.List.{flat_map, AllByRecursion}
use Rattle.std.proofs.lemmas.Bool.{eqb-true, ltb-false, le-ltb}
use Rattle.pbf_wire.specs.Occurrence.{Content, Bytes, Occurrence, items, items_past}
use Rattle.pbf_wire.proofs.AllLemmas.{all_append}
use Rattle.pbf_dense.specs.Judged.{dense_wire, dense_structure, dense_values}
use Rattle.pbf_block.specs.declared.primitive_block.TheConstants.{PRIMITIVEGROUP, BLOCK_KINDS, STRINGTABLE}
use Rattle.pbf_block.specs.declared.group.TheConstants.{NODES, DENSE, WAYS, RELATIONS, GROUP_KINDS}
use Rattle.pbf_block.specs.declared.entity.TheConstants.{INFO}
use Rattle.pbf_block.specs.declared.info.TheConstants.{INFO_KINDS}
use Rattle.pbf_block.specs.declared.node.TheConstants.{NODE_KINDS}
use Rattle.pbf_block.specs.declared.way.TheConstants.{WAY_KINDS}
use Rattle.pbf_block.specs.declared.relation.TheConstants.{RELATION_KINDS}
use Rattle.pbf_block.specs.Group.{in_group, member_wire, group_wire, first_member, entities_structure, member_structure, group_structure, member_values}
use Rattle.pbf_block.specs.Node.{node_structure, node_values}
use Rattle.pbf_block.specs.Relation.{relation_structure, relation_values}
use Rattle.pbf_block.specs.Way.{way_structure, way_values}
use Rattle.pbf_wire.specs.declared.fault.Reason.TheVariants.{TooManyStrings}
use Rattle.std.specs.Result.{is_err}
use Rattle.pbf_wire.specs.Reading.{bytes_held, occurrence_text, last_of}
use Rattle.pbf_wire.proofs.FaultLemmas.{held_short}
use Rattle.pbf_wire.specs.Wire.{ok_unless}
use Rattle.pbf_strings.specs.Texts.{texts, count_fault}

-- ---- if the first two phases have no fault, and if they have one

pub early_nil : (w s : List Fault) → None ≡ option_or (least w) (least s) → (w ≡ []) × (s ≡ [])
early_nil w s e = let both = both_none (least w) (least s) (sym e) in (no_least w both.0, no_least s both.1)

more_phases : (f : Fault) (w s late : Option Fault) → option_or w s ≡ Some f → option_or w (option_or s late) ≡ Some f
more_phases f None None late e = absurd (cc)
more_phases f None (Some s) late e = e
more_phases f (Some w) s late e = e

pub first_early : (f : Fault) (at : ℕ) (m : List ℕ) → Some f ≡ option_or (least (wire_faults at m)) (least (structure_faults at m)) → block_fault at m ≡ Some f
unfolding block_fault
first_early f at m e = more_phases f (least (wire_faults at m)) (least (structure_faults at m)) (first_fault (value_faults (length (stored_texts (fields_in at m))) at m ∷ payload_weights at m ∷ [])) (sym e)

pub first_late : (r : Option Fault) (at : ℕ) (m : List ℕ) → wire_faults at m ≡ [] → structure_faults at m ≡ [] → r ≡ option_or (least (value_faults (length (stored_texts (fields_in at m))) at m)) (least (payload_weights at m)) → block_fault at m ≡ r
unfolding block_fault
first_late r at m w s e =
    ap₂ (λ w s. first_fault (w ∷ s ∷ value_faults (length (stored_texts (fields_in at m))) at m ∷ payload_weights at m ∷ [])) w s
    ∙ ap (option_or (least (value_faults (length (stored_texts (fields_in at m))) at m))) (option_last (least (payload_weights at m))) ∙ sym e

no_later : (w s v x : List Fault) → first_fault (w ∷ s ∷ v ∷ x ∷ []) ≡ None → (w ≡ []) × (s ≡ []) × (v ≡ []) × (x ≡ [])
no_later w s v x e =
    let one = both_none (least w) _ e in
    let two = both_none (least s) _ one.1 in
    let three = both_none (least v) _ two.1 in
    let four = both_none (least x) None three.1 in
    (no_least w one.0, no_least s two.0, no_least v three.0, no_least x four.0)

-- no fault is no fault of any phase
pub no_fault : (at : ℕ) (m : List ℕ) → block_fault at m ≡ None → (wire_faults at m ≡ []) × (structure_faults at m ≡ []) × (value_faults (length (stored_texts (fields_in at m))) at m ≡ []) × (payload_weights at m ≡ [])
unfolding block_fault
no_fault at m e = no_later (wire_faults at m) (structure_faults at m) (value_faults (length (stored_texts (fields_in at m))) at m) (payload_weights at m) e

-- ---- as one order

pub phases_joined : (at : ℕ) (m : List ℕ) → option_map (λ p. p.1) (least_by phase_rank (all_faults at m)) ≡ block_fault at m
unfolding block_fault
phases_joined at m = joined 8 (block_phases at m)

-- ---- the message that a field holds

pub entered_nil : {X : Type 0} (k : ℕ) (f : ℕ → ℕ → List ℕ → List X) (o : Occurrence) → entered k f o ≡ [] → o.number ≡ k → inside (f o.place) o.content ≡ []
entered_nil k f o e same = let test : (o.number == k) ≡ true = grind arith in sym (ap (λ (b : Bool). if b then inside (f o.place) o.content else []) test) ∙ e

-- it holds of the message
abbrev pub Inside : (ℕ → List ℕ → Type 0) → Content → Type 0
Inside P (Bytes bytes at) = P at bytes
Inside P _ = Unit {0}

pub inside_same : {X : Type 0} (f g : ℕ → List ℕ → List X) (P : ℕ → List ℕ → Type 0) (c : Content) → ((at : ℕ) (m : List ℕ) → P at m → f at m ≡ g at m) → Inside P c → inside f c ≡ inside g c
inside_same f g P (Bytes bytes at) h p = h at bytes p
inside_same f g P c h p = refl

pub inside_all : {X : Type 0} (Q : X → Type 0) (f : ℕ → List ℕ → List X) (P : ℕ → List ℕ → Type 0) (c : Content) → ((at : ℕ) (m : List ℕ) → P at m → AllByRecursion Q (f at m)) → Inside P c → AllByRecursion Q (inside f c)
inside_all Q f P (Bytes bytes at) h p = h at bytes p
inside_all Q f P c h p = tt

-- two ways to go on after a test are the same if it holds, and if it doesn't
pub cond_same : {A : Type 0} (b : Bool) (x y w z : A) → (b ≡ true → x ≡ y) → w ≡ z → cond b x w ≡ cond b y z
cond_same true x y w z h k = h refl
cond_same false x y w z h k = k

-- a test, and what holds of all that it lets through
pub cond_all : {X : Type 0} (P : X → Type 0) (b : Bool) (xs ys : List X) → (b ≡ true → AllByRecursion P xs) → AllByRecursion P ys → AllByRecursion P (cond b xs ys)
cond_all P true xs ys h k = h refl
cond_all P false xs ys h k = k

-- ---- the fields of all groups

-- it holds of each field of a field of the payload that is a group
abbrev pub InGroup : (Occurrence → Type 0) → Occurrence → Type 0
InGroup P o = o.number ≡ PRIMITIVEGROUP → Inside (λ at m. AllByRecursion P (fields_in at m)) o.content

flat_same : {X Y : Type 0} (f g : X → List Y) (P : X → Type 0) (xs : List X) → ((x : X) → P x → f x ≡ g x) → AllByRecursion P xs → flat_map f xs ≡ flat_map g xs
flat_same f g P [] h all = refl
flat_same {Y = Y} f g P (x ∷ xs) h all = ap₂ (λ (a b : List Y). a ++ b) (h x all.0) (flat_same f g P xs h all.1)

flat_all : {X Y : Type 0} (Q : Y → Type 0) (f : X → List Y) (P : X → Type 0) (xs : List X) → ((x : X) → P x → AllByRecursion Q (f x)) → AllByRecursion P xs → AllByRecursion Q (flat_map f xs)
flat_all Q f P [] h all = tt
flat_all Q f P (x ∷ xs) h all = all_append Q (f x) (flat_map f xs) (h x all.0) (flat_all Q f P xs h all.1)

-- what they give is the same, if each gives the same
pub groups_same : {X : Type 0} (f g : Occurrence → List X) (P : Occurrence → Type 0) → ((o : Occurrence) → P o → f o ≡ g o) → (os : List Occurrence) → AllByRecursion (InGroup P) os → flat_map (in_group f) os ≡ flat_map (in_group g) os
groups_same f g P same os all = flat_same (in_group f) (in_group g) (InGroup P) os (λ o h.
    cond_same (eqb o.number PRIMITIVEGROUP) _ _ _ _ (λ t. inside_same _ _ _ o.content (λ at m p. flat_same f g P (fields_in at m) same p) (h (eqb-true o.number PRIMITIVEGROUP t))) refl) all

-- and holds of all that they give, if it does of what each gives
pub groups_all : {X : Type 0} (Q : X → Type 0) (f : Occurrence → List X) (P : Occurrence → Type 0) → ((o : Occurrence) → P o → AllByRecursion Q (f o)) → (os : List Occurrence) → AllByRecursion (InGroup P) os → AllByRecursion Q (flat_map (in_group f) os)
groups_all Q f P each os all = flat_all Q (in_group f) (InGroup P) os (λ o h.
    cond_all Q (eqb o.number PRIMITIVEGROUP) _ _ (λ t. inside_all Q _ _ o.content (λ at m p. flat_all Q f P (fields_in at m) each p) (h (eqb-true o.number PRIMITIVEGROUP t))) tt) all

-- if they give nothing, each gives nothing
inside_nil : {X : Type 0} (f : Occurrence → List X) (c : Content) → inside (λ at m. flat_map f (fields_in at m)) c ≡ [] → Inside (λ at m. AllByRecursion (λ o. f o ≡ []) (fields_in at m)) c
inside_nil f (Bytes bytes at) e = all_nil f (fields_in at bytes) e
inside_nil f c e = tt

pub groups_nil : {X : Type 0} (f : Occurrence → List X) (os : List Occurrence) → flat_map (in_group f) os ≡ [] → AllByRecursion (InGroup (λ o. f o ≡ [])) os
groups_nil f [] e = tt
groups_nil f (o ∷ os) e =
    let both = both_nil (in_group f o) (flat_map (in_group f) os) e in
    (λ is. inside_nil f o.content (entered_nil PRIMITIVEGROUP (λ place at m. flat_map f (fields_in at m)) o both.0 is), groups_nil f os both.1)

-- ---- a message in which nothing is wrong

-- by the number of its field
pub record IsClean (limit k place at : ℕ) (m : List ℕ) : Type 0 where
  pub node_numbers : k ≡ NODES → node_values limit place at m ≡ []
  pub dense_form : k ≡ DENSE → dense_wire place at m ≡ []
  pub dense_parts : k ≡ DENSE → dense_structure place at m ≡ []
  pub dense_numbers : k ≡ DENSE → dense_values limit place at m ≡ []
  pub way_form : k ≡ WAYS → nested_faults WAY_KINDS INFO INFO_KINDS place at m ≡ []
  pub way_parts : k ≡ WAYS → way_structure place at m ≡ []
  pub way_numbers : k ≡ WAYS → way_values limit place at m ≡ []
  pub relation_numbers : k ≡ RELATIONS → relation_values limit place at m ≡ []

abbrev pub HoldsClean : ℕ → Occurrence → Type 0
HoldsClean limit o = Inside (IsClean limit o.number o.place) o.content

module _ (limit : ℕ) where
  content_clean : (place k : ℕ) (c : Content) → let o : Occurrence = record { place = place; number = k; content = c } in member_wire o ≡ [] → entities_structure o ≡ [] → member_values limit o ≡ [] → HoldsClean limit o
  content_clean place k (Bytes bytes at) w s v =
      let o : Occurrence = record { place = place; number = k; content = Bytes bytes at } in
      let w4 = both_nil _ (entered RELATIONS (nested_faults RELATION_KINDS INFO INFO_KINDS) o) w in
      let w3 = both_nil _ (entered WAYS (nested_faults WAY_KINDS INFO INFO_KINDS) o) w4.0 in
      let w2 = both_nil (entered NODES (nested_faults NODE_KINDS INFO INFO_KINDS) o) (entered DENSE dense_wire o) w3.0 in
      let s3 = both_nil _ (entered WAYS way_structure o) (both_nil _ (entered RELATIONS relation_structure o) s).0 in
      let v4 = both_nil _ (entered RELATIONS (relation_values limit) o) v in
      let v3 = both_nil _ (entered WAYS (way_values limit) o) v4.0 in
      let v2 = both_nil (entered NODES (node_values limit) o) (entered DENSE (dense_values limit) o) v3.0 in
      record {
        node_numbers = entered_nil NODES (node_values limit) o v2.0;
        dense_form = entered_nil DENSE dense_wire o w2.1;
        dense_parts = entered_nil DENSE dense_structure o (both_nil (entered NODES node_structure o) (entered DENSE dense_structure o) s3.0).1;
        dense_numbers = entered_nil DENSE (dense_values limit) o v2.1;
        way_form = entered_nil WAYS (nested_faults WAY_KINDS INFO INFO_KINDS) o w3.1;
        way_parts = entered_nil WAYS way_structure o s3.1;
        way_numbers = entered_nil WAYS (way_values limit) o v3.1;
        relation_numbers = entered_nil RELATIONS (relation_values limit) o v4.1;
      }
  content_clean place k c w s v = tt

  -- ---- a payload in which nothing is wrong

  fields_clean : (first : Option ℕ) (os : List Occurrence) → AllByRecursion (IsSound GROUP_KINDS member_wire) os → AllByRecursion (λ o. member_structure first o ≡ []) os → AllByRecursion (λ o. member_values limit o ≡ []) os → AllByRecursion (HoldsClean limit) os
  fields_clean first [] w s v = tt
  fields_clean first (o ∷ os) w s v = (content_clean o.place o.number o.content w.0.1 (both_nil _ (entities_structure o) s.0).1 v.0, fields_clean first os w.1 s.1 v.1)

  group_clean : (place : ℕ) (c : Content) → inside (group_wire place) c ≡ [] → inside (group_structure place) c ≡ [] → Inside (λ at m. AllByRecursion (λ o. member_values limit o ≡ []) (fields_in at m)) c → Inside (λ at m. AllByRecursion (HoldsClean limit) (fields_in at m)) c
  group_clean place (Bytes bytes at) w s u =
      let os = fields_in at bytes in
      let f = member_structure (first_member os) in
      fields_clean (first_member os) os (fields_sound GROUP_KINDS member_wire (items at bytes) w) (all_nil f os (both_nil (twice DENSE os) (flat_map f os) s).1) u
  group_clean place c w s u = tt

  parts_clean : (os : List Occurrence) → AllByRecursion (IsSound BLOCK_KINDS part_wire) os → AllByRecursion (λ o. part_structure o ≡ []) os → AllByRecursion (InGroup (λ o. member_values limit o ≡ [])) os → AllByRecursion (InGroup (HoldsClean limit)) os
  parts_clean [] w s v = tt
  parts_clean (o ∷ os) w s v =
      (λ is. group_clean o.place o.content (entered_nil PRIMITIVEGROUP group_wire o (both_nil _ (entered PRIMITIVEGROUP group_wire o) w.0.1).1 is) (entered_nil PRIMITIVEGROUP group_structure o (both_nil _ (entered PRIMITIVEGROUP group_structure o) s.0).1 is) (v.0 is), parts_clean os w.1 s.1 v.1)

  pub payload_clean : (at : ℕ) (m : List ℕ) → wire_faults at m ≡ [] → structure_faults at m ≡ [] → value_faults limit at m ≡ [] → AllByRecursion (InGroup (HoldsClean limit)) (fields_in at m)
  unfolding wire_faults structure_faults value_faults
  payload_clean at m w s v =
      let os = fields_in at m in
      parts_clean os (fields_sound BLOCK_KINDS part_wire (items at m) w) (all_nil part_structure os (both_nil _ (flat_map part_structure os) s).1)
      (groups_nil (member_values limit) os (both_nil _ (flat_map (in_group (member_values limit)) os) v).1)

-- ---- it is no longer than the payload

short_if : (n k : ℕ) (os : List Occurrence) (last : Option Occurrence) → AllByRecursion (λ o. length (bytes_held o.content) ≤ n) os → last_of k os ≡ last → length (occurrence_text last) ≤ n
short_if n k os None all e = omega arith
short_if n k os (Some o) all e = (last_holds (λ o. length (bytes_held o.content) ≤ n) k os o all e).0

pub table_short : (at : ℕ) (m : List ℕ) → length (occurrence_text (last_of STRINGTABLE (fields_in at m))) ≤ length m
table_short at m = short_if (length m) STRINGTABLE (fields_in at m) (last_of STRINGTABLE (fields_in at m)) (held_short at m) refl

-- ---- it has no more texts than it may have

few_texts : (place : ℕ) (m : List ℕ) → table_structure place 0 m ≡ [] → length (texts m) ≤ 1048576
few_texts place m e = omega (arith, ltb-false 1048576 (length (texts m)) (not_wrong (nat_lt 1048576 (length (texts m))) place TooManyStrings e))

few_none : length (texts []) ≤ 1048576
unfolding items_past
few_none = omega arith

few_inside : (place : ℕ) (c : Content) → inside (table_structure place) c ≡ [] → length (texts (bytes_held c)) ≤ 1048576
few_inside place (Bytes bytes at) s = few_texts place bytes s
few_inside place c s = few_none

few_if : (os : List Occurrence) (last : Option Occurrence) → AllByRecursion (λ o. part_structure o ≡ []) os → last_of STRINGTABLE os ≡ last → length (texts (occurrence_text last)) ≤ 1048576
few_if os None all e = few_none
few_if os (Some o) all e =
    let h = last_holds (λ o. part_structure o ≡ []) STRINGTABLE os o all e in
    few_inside o.place o.content (entered_nil STRINGTABLE table_structure o (both_nil _ (entered PRIMITIVEGROUP group_structure o) h.0).0 h.1)

pub table_few : (at : ℕ) (m : List ℕ) → structure_faults at m ≡ [] → length (stored_texts (fields_in at m)) ≤ 1048576
unfolding structure_faults
table_few at m s =
    let os = fields_in at m in
    few_if os (last_of STRINGTABLE os) (all_nil part_structure os (both_nil _ (flat_map part_structure os) s).1) refl

-- a payload whose table has more of them has a fault
counts_few : (b : Bool) (e : Fault) → b ≡ false → is_err (ok_unless (if b then Some e else None)) ≡ true → ⊥
counts_few true e few is = cc
counts_few false e few is = cc

pub many_texts : (tag at : ℕ) (m : List ℕ) → is_err (ok_unless (count_fault tag (occurrence_text (last_of STRINGTABLE (fields_in at m))))) ≡ true → structure_faults at m ≡ [] → ⊥
many_texts tag at m is sound = counts_few (nat_lt 1048576 (length (stored_texts (fields_in at m)))) _ (le-ltb _ _ (omega (arith, table_few at m sound))) is
