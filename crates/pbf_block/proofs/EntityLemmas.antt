-- Columns of texts' indexes, put one by one while the table grows.
use Rattle.std.proofs.Common.{◌≡◌, ℕ, ◌+◌, ◌≤◌, List, [], ◌∷◌, ◌++◌, length, map, refl, sym, ap, ◌∙◌, arith, append_assoc, append-nil, length-append, subst, ℤ, Some}
use Rattle.std.specs.Option.{option_to_list}
use Rattle.std.proofs.lemmas.List.{length-map}
use Rattle.pbf_wire.specs.Message.{Scalar, Column, Each, slot_bytes, message, unless_empty}
use Rattle.pbf_wire.specs.Signed.{sign_extended}
use Rattle.pbf_wire.specs.Sums.{deltas}
use Rattle.pbf_wire.proofs.WritingLemmas.{slot_put}
use Rattle.pbf_strings.specs.TableOut.{with_text, texts_after, index_in}
use Rattle.pbf_strings.proofs.UsedTexts.{index_stays, length_with, room_left, used_both, used_later}
use Rattle.osm_entity.specs.Entity.{TagSpec, MetaSpec, MemberSpec, WaySpec, RelationSpec}
use Rattle.osm_entity.specs.EntityTexts.{tag_texts, relation_texts}
use Rattle.pbf_block.proofs.LengthLaw.{own_columns}
use Rattle.pbf_block.specs.WrittenEntity.{key_index, value_index, role_index, kind_number, info_message, entity_slots, way_message, relation_message}

-- one more number at the end of a column, and one less before it
pub moved : (column rest all : List ℕ) (index other : ℕ) → index ≡ other → column ++ other ∷ rest ≡ all → (column ++ index ∷ []) ++ rest ≡ all
moved column rest all index other e h = append_assoc column (index ∷ []) rest ∙ (ap (λ (n : ℕ). column ++ n ∷ rest) e ∙ h)

-- of all tags these are left: the columns hold the indexes of the others, which stay whatever texts are used later
pub record ArePut (start : List (List ℕ)) (all : List TagSpec) (texts : List (List ℕ)) (keys values : List ℕ) (left : List TagSpec) : Type 0 where
  pub texts_are : texts_after texts (tag_texts left) ≡ texts_after start (tag_texts all)
  pub keys_are : (used : List (List ℕ)) → keys ++ map (key_index (texts_after texts (tag_texts left ++ used))) left ≡ map (key_index (texts_after texts (tag_texts left ++ used))) all
  pub values_are : (used : List (List ℕ)) → values ++ map (value_index (texts_after texts (tag_texts left ++ used))) left ≡ map (value_index (texts_after texts (tag_texts left ++ used))) all
  pub room : length texts + length (tag_texts left) ≤ 1048575

pub one_put : (start : List (List ℕ)) (all : List TagSpec) (texts : List (List ℕ)) (keys values : List ℕ) (tag : TagSpec) (left : List TagSpec) (key value : ℕ)
    → ArePut start all texts keys values (tag ∷ left) → key ≡ index_in (with_text texts tag.0) tag.0 → value ≡ index_in (with_text (with_text texts tag.0) tag.1) tag.1
    → ArePut start all (with_text (with_text texts tag.0) tag.1) (keys ++ key ∷ []) (values ++ value ∷ []) left
one_put start all texts keys values tag left key value h e f = record {
  texts_are = h.texts_are;
  keys_are = λ used. moved keys _ _ key _ (e ∙ sym (index_stays (tag.1 ∷ (tag_texts left ++ used)) texts tag.0)) (h.keys_are used);
  values_are = λ used. moved values _ _ value _ (f ∙ sym (index_stays (tag_texts left ++ used) (with_text texts tag.0) tag.1)) (h.values_are used);
  room = let r = h.room in omega (arith, r, length_with texts tag.0, length_with (with_text texts tag.0) tag.1);
}

-- the same of the roles of members
pub record RolesPut (start : List (List ℕ)) (all : List MemberSpec) (texts : List (List ℕ)) (roles : List ℕ) (left : List MemberSpec) : Type 0 where
  pub texts_are : texts_after texts (map (λ m. m.role) left) ≡ texts_after start (map (λ m. m.role) all)
  pub roles_are : (used : List (List ℕ)) → roles ++ map (role_index (texts_after texts (map (λ m. m.role) left ++ used))) left ≡ map (role_index (texts_after texts (map (λ m. m.role) left ++ used))) all
  pub room : length texts + length left ≤ 1048575

pub one_role_put : (start : List (List ℕ)) (all : List MemberSpec) (texts : List (List ℕ)) (roles : List ℕ) (m : MemberSpec) (left : List MemberSpec) (role : ℕ)
    → RolesPut start all texts roles (m ∷ left) → role ≡ index_in (with_text texts m.role) m.role
    → RolesPut start all (with_text texts m.role) (roles ++ role ∷ []) left
one_role_put start all texts roles m left role h e = record {
  texts_are = h.texts_are;
  roles_are = λ used. moved roles _ _ role _ (e ∙ sym (index_stays (map (λ m. m.role) left ++ used) texts m.role)) (h.roles_are used);
  room = let r = h.room in omega (arith, r, length_with texts m.role);
}

pub put_step : (start : List (List ℕ)) (all : List TagSpec) (texts one two : List (List ℕ)) (keys values keys' values' : List ℕ) (tag : TagSpec) (before left : List TagSpec) (key value : ℕ)
    → ArePut start all texts keys values before → before ≡ tag ∷ left → one ≡ with_text texts tag.0 → key ≡ index_in one tag.0 → two ≡ with_text one tag.1 → value ≡ index_in two tag.1 → keys' ≡ keys ++ key ∷ [] → values' ≡ values ++ value ∷ []
    → ArePut start all two keys' values' left
put_step start all texts one two keys values keys' values' tag before left key value h is e k f v ks vs =
    let two_is : two ≡ with_text (with_text texts tag.0) tag.1 = f ∙ ap (λ (ts : List (List ℕ)). with_text ts tag.1) e in
    rw (two_is, ks, vs) (one_put start all texts keys values tag left key value (subst (λ (b : List TagSpec). ArePut start all texts keys values b) is h)
    (k ∙ ap (λ (ts : List (List ℕ)). index_in ts tag.0) e) (v ∙ ap (λ (ts : List (List ℕ)). index_in ts tag.1) two_is))

pub role_step : (start : List (List ℕ)) (all : List MemberSpec) (texts texts' : List (List ℕ)) (roles roles' : List ℕ) (m : MemberSpec) (before left : List MemberSpec) (role : ℕ)
    → RolesPut start all texts roles before → before ≡ m ∷ left → texts' ≡ with_text texts m.role → role ≡ index_in texts' m.role → roles' ≡ roles ++ role ∷ []
    → RolesPut start all texts' roles' left
role_step start all texts texts' roles roles' m before left role h is e r rs =
    rw (e, rs) (one_role_put start all texts roles m left role (subst (λ (b : List MemberSpec). RolesPut start all texts roles b) is h) (r ∙ ap (λ (ts : List (List ℕ)). index_in ts m.role) e))

-- nothing is left
pub all_put : (start : List (List ℕ)) (all : List TagSpec) (texts : List (List ℕ)) (keys values : List ℕ) (left : List TagSpec) → ArePut start all texts keys values left → left ≡ []
    → (texts ≡ texts_after start (tag_texts all)) × ((used : List (List ℕ)) → keys ≡ map (key_index (texts_after texts used)) all) × ((used : List (List ℕ)) → values ≡ map (value_index (texts_after texts used)) all)
all_put start all texts keys values left h is =
    let d = subst (λ (b : List TagSpec). ArePut start all texts keys values b) is h in
    (d.texts_are, λ used. sym (append-nil keys) ∙ d.keys_are used, λ used. sym (append-nil values) ∙ d.values_are used)

pub all_roles_put : (start : List (List ℕ)) (all : List MemberSpec) (texts : List (List ℕ)) (roles : List ℕ) (left : List MemberSpec) → RolesPut start all texts roles left → left ≡ []
    → (used : List (List ℕ)) → roles ≡ map (role_index (texts_after texts used)) all
all_roles_put start all texts roles left h is used =
    let d = subst (λ (b : List MemberSpec). RolesPut start all texts roles b) is h in sym (append-nil roles) ∙ d.roles_are used

-- ---- entities, from their parts

-- the message of what ways and relations have in common
pub begun : (middle texts user used : List (List ℕ)) (id : ℤ) (meta : MetaSpec) (tags : List TagSpec) (keys values info : List ℕ) → texts ≡ texts_after middle user
    → ((used : List (List ℕ)) → keys ≡ map (key_index (texts_after middle used)) tags) → ((used : List (List ℕ)) → values ≡ map (value_index (texts_after middle used)) tags)
    → info ≡ info_message (texts_after texts used) meta
    → message (Scalar 1 (Some (sign_extended id)) ∷ Column 2 keys ∷ Column 3 values ∷ Each 4 (unless_empty info) ∷ []) ≡ message (entity_slots (texts_after texts used) id meta tags [])
begun middle texts user used id meta tags keys values info e ks vs i =
    let later : texts_after middle (user ++ used) ≡ texts_after texts used = used_later middle texts user used e in
    let keys_are : keys ≡ map (key_index (texts_after texts used)) tags = ks (user ++ used) ∙ ap (λ (ts : List (List ℕ)). map (key_index ts) tags) later in
    let values_are : values ≡ map (value_index (texts_after texts used)) tags = vs (user ++ used) ∙ ap (λ (ts : List (List ℕ)). map (value_index ts) tags) later in
    rw (keys_are, values_are, i) refl

-- its own columns after that
own_put : (texts : List (List ℕ)) (id : ℤ) (meta : MetaSpec) (tags : List TagSpec) (a b c m m1 m2 m3 : List ℕ)
    → m ≡ message (entity_slots texts id meta tags []) → m1 ≡ m ++ slot_bytes (Column 8 a) → m2 ≡ m1 ++ slot_bytes (Column 9 b) → m3 ≡ m2 ++ slot_bytes (Column 10 c)
    → m3 ≡ message (entity_slots texts id meta tags (own_columns a b c))
own_put texts id meta tags a b c m m1 m2 m3 h h1 h2 h3 =
    let one = slot_put (entity_slots texts id meta tags []) (Column 8 a) m m1 h h1 in
    let two = slot_put (entity_slots texts id meta tags (Column 8 a ∷ [])) (Column 9 b) m1 m2 one h2 in
    slot_put (entity_slots texts id meta tags (Column 8 a ∷ Column 9 b ∷ [])) (Column 10 c) m2 m3 two h3

pub way_made : (texts : List (List ℕ)) (w : WaySpec) (id : ℤ) (meta : MetaSpec) (tags : List TagSpec) (refs lats lons : List ℤ) (m m1 m2 m3 : List ℕ)
    → id ≡ w.id → meta ≡ w.meta → tags ≡ w.tags → refs ≡ w.refs → lats ≡ map (λ l. l.0) w.locations → lons ≡ map (λ l. l.1) w.locations
    → m ≡ message (entity_slots texts id meta tags []) → m1 ≡ m ++ slot_bytes (Column 8 (deltas refs)) → m2 ≡ m1 ++ slot_bytes (Column 9 (deltas lats)) → m3 ≡ m2 ++ slot_bytes (Column 10 (deltas lons))
    → m3 ≡ way_message texts w
unfolding way_message
way_made texts w id meta tags refs lats lons m m1 m2 m3 ei em et er ea eo h h1 h2 h3 =
    own_put texts id meta tags (deltas refs) (deltas lats) (deltas lons) m m1 m2 m3 h h1 h2 h3 ∙ rw (ei, em, et, er, ea, eo) refl

pub relation_made : (texts : List (List ℕ)) (r : RelationSpec) (id : ℤ) (meta : MetaSpec) (tags : List TagSpec) (roles kinds : List ℕ) (ids : List ℤ) (m m1 m2 m3 : List ℕ)
    → id ≡ r.id → meta ≡ r.meta → tags ≡ r.tags → roles ≡ map (role_index texts) r.members → ids ≡ map (λ m. m.id) r.members → kinds ≡ map (λ m. kind_number m.kind) r.members
    → m ≡ message (entity_slots texts id meta tags []) → m1 ≡ m ++ slot_bytes (Column 8 roles) → m2 ≡ m1 ++ slot_bytes (Column 9 (deltas ids)) → m3 ≡ m2 ++ slot_bytes (Column 10 kinds)
    → m3 ≡ relation_message texts r
unfolding relation_message
relation_made texts r id meta tags roles kinds ids m m1 m2 m3 ei em et er ea eo h h1 h2 h3 = own_put texts id meta tags roles (deltas ids) kinds m m1 m2 m3 h h1 h2 h3 ∙ rw (ei, em, et, er, ea, eo) refl

-- the roles are used after the tags and the user
pub roles_used : (start middle texts : List (List ℕ)) (r : RelationSpec) (meta : MetaSpec) (tags : List TagSpec) (members : List MemberSpec) → meta ≡ r.meta → tags ≡ r.tags → members ≡ r.members
    → middle ≡ texts_after start (tag_texts tags ++ option_to_list meta.user) → texts ≡ texts_after middle (map (λ m. m.role) members) → texts ≡ texts_after start (relation_texts r)
roles_used start middle texts r meta tags members em et es e f =
    used_both start middle texts (tag_texts tags ++ option_to_list meta.user) (map (λ m. m.role) members) e f
    ∙ ap (λ (ts : List (List ℕ)). texts_after start ts) (append_assoc (tag_texts tags) (option_to_list meta.user) (map (λ m. m.role) members)) ∙ rw (em, et, es) refl

pub role_room : (start middle : List (List ℕ)) (r : RelationSpec) (meta : MetaSpec) (tags : List TagSpec) (members : List MemberSpec) → meta ≡ r.meta → tags ≡ r.tags → members ≡ r.members
    → middle ≡ texts_after start (tag_texts tags ++ option_to_list meta.user) → length start + length (relation_texts r) ≤ 1048575 → length middle + length members ≤ 1048575
role_room start middle r meta tags members em et es e h =
    room_left start middle (tag_texts tags ++ option_to_list meta.user) (length members) e
    (rw (em, et, es) (let l = length-append (tag_texts r.tags) (option_to_list r.meta.user ++ map (λ m. m.role) r.members) in
    let k = length-append (option_to_list r.meta.user) (map (λ m. m.role) r.members) in
    let j = length-append (tag_texts r.tags) (option_to_list r.meta.user) in
    let n = length-map r.members (λ (m : MemberSpec). m.role) in
    omega (arith, l, k, j, n, h)))
