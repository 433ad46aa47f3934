-- Columns of dense nodes that are written while the table grows, node by node and many nodes at once.
use Rattle.std.proofs.Common.{◌≡◌, ℕ, ℤ, pos, ◌+◌, ◌≤◌, Bool, false, ◌||◌, List, [], ◌∷◌, ◌++◌, length, length-append, map, Option, Some, None, refl, sym, ap, ◌∙◌, arith, append_assoc, append-nil, subst, zero, suc, take, drop}
use Rattle.std.specs.Prelude.{if◌then◌else◌, slice_get, not, ◌==◌}
use Rattle.std.specs.List.{flat_map, filter_map, list_any, cons_option}
use Rattle.std.specs.Option.{option_map, option_to_list}
use Rattle.std.proofs.lemmas.List.{map-append}
use Rattle.std.proofs.lemmas.List.Elements.{filter_map-append}
use Rattle.std.proofs.lemmas.Grind.{flat_map-append}
use Rattle.std.proofs.Math.Bool.{or-false}
use Rattle.pbf_wire.specs.Message.{Column, Each, slot_bytes, message, unless_empty}
use Rattle.pbf_wire.specs.Sums.{deltas}
use Rattle.pbf_wire.specs.Signed.{sign_extended, low_i32}
use Rattle.pbf_wire.proofs.WritingLemmas.{nothing_put, column_empty}
use Rattle.pbf_strings.specs.TableOut.{with_text, texts_after, index_in}
use Rattle.pbf_strings.proofs.UsedTexts.{index_stays, length_with, room_left, used_both, used_later}
use Rattle.osm_entity.specs.Entity.{TagSpec, MetaSpec, NodeSpec}
use Rattle.osm_entity.specs.EntityTexts.{tag_texts, node_texts}
use Rattle.pbf_dense.specs.WrittenDense.{DenseColumns, tag_numbers, run_of, are_some, has_tag, bit_of, dense_info_message, columns_of, dense_slots, dense_message}
use Rattle.std.proofs.lemmas.List.Folds.{flat_map-map, list_any-append}
use Rattle.osm_entity.specs.declared.scale.Scale.{Scale}
use Rattle.osm_entity.specs.Sources.{tag_of, run}
use Rattle.pbf_dense.specs.Info.{user_text, InfoSpec, info_rest, info_past}
use Rattle.pbf_dense.specs.Runs.{after_run, after_runs}
use Rattle.pbf_dense.specs.Nodes.{nodes_of_columns}
use Rattle.pbf_dense.specs.NodeTexts.{NodeTexts, texts_along, texts_used, runs_for, user_index, users_for, any_tagged, TextColumns, columns_with, TakesTexts}
use Rattle.pbf_dense.specs.InfoTaken.{written_version, written_flag, TakesInfo}

-- of all tags these are left: the column goes on with the indexes of the others, which stay whatever texts are used later
pub record RunPut (start : List (List ℕ)) (all : List TagSpec) (before : List ℕ) (texts : List (List ℕ)) (runs : List ℕ) (left : List TagSpec) : Type 0 where
  pub texts_are : texts_after texts (tag_texts left) ≡ texts_after start (tag_texts all)
  pub runs_are : (used : List (List ℕ)) → runs ++ tag_numbers (texts_after texts (tag_texts left ++ used)) left ≡ before ++ tag_numbers (texts_after texts (tag_texts left ++ used)) all
  pub room : length texts + length (tag_texts left) ≤ 1048575

pub run_step : (start : List (List ℕ)) (all : List TagSpec) (before : List ℕ) (texts one two : List (List ℕ)) (runs runs1 runs2 : List ℕ) (tag : TagSpec) (was left : List TagSpec) (key value : ℕ)
    → RunPut start all before texts runs was → was ≡ tag ∷ left → one ≡ with_text texts tag.0 → key ≡ index_in one tag.0 → runs1 ≡ runs ++ key ∷ [] → two ≡ with_text one tag.1 → value ≡ index_in two tag.1 → runs2 ≡ runs1 ++ value ∷ []
    → RunPut start all before two runs2 left
run_step start all before texts one two runs runs1 runs2 tag was left key value h is e k r f v s =
    let d = subst (λ (b : List TagSpec). RunPut start all before texts runs b) is h in
    let two_is : two ≡ with_text (with_text texts tag.0) tag.1 = f ∙ ap (λ (ts : List (List ℕ)). with_text ts tag.1) e in
    let key_is : key ≡ index_in (with_text texts tag.0) tag.0 = k ∙ ap (λ (ts : List (List ℕ)). index_in ts tag.0) e in
    let value_is : value ≡ index_in (with_text (with_text texts tag.0) tag.1) tag.1 = v ∙ ap (λ (ts : List (List ℕ)). index_in ts tag.1) two_is in
    rw (two_is, s, r) (record {
      texts_are = d.texts_are;
      runs_are = λ used.
          append_assoc (runs ++ key ∷ []) (value ∷ []) _ ∙ (append_assoc runs (key ∷ []) _
          ∙ (ap (λ (n : ℕ). runs ++ n ∷ value ∷ tag_numbers (texts_after (with_text (with_text texts tag.0) tag.1) (tag_texts left ++ used)) left) (key_is ∙ sym (index_stays (tag.1 ∷ (tag_texts left ++ used)) texts tag.0))
          ∙ (ap (λ (n : ℕ). runs ++ index_in (texts_after texts (tag_texts (tag ∷ left) ++ used)) tag.0 ∷ n ∷ tag_numbers (texts_after (with_text (with_text texts tag.0) tag.1) (tag_texts left ++ used)) left) (value_is ∙ sym (index_stays (tag_texts left ++ used) (with_text texts tag.0) tag.1))
          ∙ d.runs_are used)));
      room = let q = d.room in omega (arith, q, length_with texts tag.0, length_with (with_text texts tag.0) tag.1);
    })

pub run_put : (start : List (List ℕ)) (all : List TagSpec) (before : List ℕ) (texts : List (List ℕ)) (runs ended : List ℕ) (left : List TagSpec) → RunPut start all before texts runs left → left ≡ [] → ended ≡ runs ++ 0 ∷ []
    → (used : List (List ℕ)) → ended ≡ before ++ run_of (texts_after texts used) all
run_put start all before texts runs ended left h is e used =
    let d = subst (λ (b : List TagSpec). RunPut start all before texts runs b) is h in
    e ∙ ap (λ (w : List ℕ). w ++ 0 ∷ []) (sym (append-nil runs) ∙ d.runs_are used) ∙ append_assoc before (tag_numbers (texts_after texts used) all) (0 ∷ [])

-- ---- nodes

-- the columns of nodes and of others after them
abbrev pub joined : DenseColumns → DenseColumns → DenseColumns
joined a b = record {
  ids = a.ids ++ b.ids;
  lats = a.lats ++ b.lats;
  lons = a.lons ++ b.lons;
  info = record {
    versions = a.info.versions ++ b.info.versions;
    timestamps = a.info.timestamps ++ b.info.timestamps;
    changesets = a.info.changesets ++ b.info.changesets;
    uids = a.info.uids ++ b.info.uids;
    users = a.info.users ++ b.info.users;
    visible = a.info.visible ++ b.info.visible;
  };
  runs = a.runs ++ b.runs;
  tagged = a.tagged || b.tagged;
}

pub columns_both : (texts : List (List ℕ)) (ns more : List NodeSpec) → columns_of texts (ns ++ more) ≡ joined (columns_of texts ns) (columns_of texts more)
columns_both texts ns more = simp (map-append, filter_map-append, flat_map-append, list_any-append)

one_listed : {Y : Type 0} (o : Option Y) → cons_option o [] ≡ option_to_list o
one_listed None = refl
one_listed (Some y) = refl

named : (texts : List (List ℕ)) (user : Option (List ℕ)) → option_map pos (option_map (index_in texts) user) ≡ option_map (λ text. pos (index_in texts text)) user
named texts None = refl
named texts (Some text) = refl

-- the runs are left out if no node has a tag
pub no_runs : (tagged : Bool) (runs old : List ℕ) → tagged ≡ false → old ≡ old ++ slot_bytes (Column 10 (if tagged then runs else []))
no_runs tagged runs old e = rw e (nothing_put (Column 10 []) old (column_empty 10 [] refl))

-- ---- a node whose parts were read

pub node_room : (start middle : List (List ℕ)) (n : NodeSpec) → middle ≡ texts_after start (tag_texts n.tags) → length start + length (node_texts n) ≤ 1048575 → length middle + length (option_to_list n.meta.user) ≤ 1048575
node_room start middle n e h = room_left start middle (tag_texts n.tags) (length (option_to_list n.meta.user)) e (let l = length-append (tag_texts n.tags) (option_to_list n.meta.user) in omega (arith, l, h))

pub node_used : (start middle texts : List (List ℕ)) (n : NodeSpec) → middle ≡ texts_after start (tag_texts n.tags) → texts ≡ texts_after middle (option_to_list n.meta.user) → texts ≡ texts_after start (node_texts n)
node_used start middle texts n e f = used_both start middle texts (tag_texts n.tags) (option_to_list n.meta.user) e f

-- one more node in all columns
pub node_pushed : (start middle texts used : List (List ℕ)) (ns : List NodeSpec) (n : NodeSpec) (old new : DenseColumns) (user : Option ℕ) (id lat lon : ℤ)
    → id ≡ n.id → lat ≡ n.lat → lon ≡ n.lon → middle ≡ texts_after start (tag_texts n.tags) → texts ≡ texts_after middle (option_to_list n.meta.user)
    → ((used : List (List ℕ)) → old ≡ columns_of (texts_after start used) ns) → ((used : List (List ℕ)) → new.runs ≡ old.runs ++ run_of (texts_after middle used) n.tags) → ((used : List (List ℕ)) → user ≡ option_map (index_in (texts_after texts used)) n.meta.user)
    → new.ids ≡ old.ids ++ id ∷ [] → new.lats ≡ old.lats ++ lat ∷ [] → new.lons ≡ old.lons ++ lon ∷ []
    → new.info.versions ≡ old.info.versions ++ option_to_list (option_map sign_extended n.meta.version) → new.info.timestamps ≡ old.info.timestamps ++ option_to_list n.meta.timestamp → new.info.changesets ≡ old.info.changesets ++ option_to_list n.meta.changeset
    → new.info.uids ≡ old.info.uids ++ option_to_list n.meta.uid → new.info.users ≡ old.info.users ++ option_to_list (option_map pos user) → new.info.visible ≡ old.info.visible ++ option_to_list (option_map bit_of n.meta.visible)
    → new.tagged ≡ (old.tagged || are_some n.tags) → new ≡ columns_of (texts_after texts used) (ns ++ n ∷ [])
node_pushed start middle texts used ns n old new user id lat lon di da dn e f h r u ei ea eo ev et ec ex ep eb eg =
    let all = texts_after texts used in
    let named_user = option_to_list n.meta.user in
    let later = used_later middle texts named_user used f in
    let all_later : texts_after start (tag_texts n.tags ++ (named_user ++ used)) ≡ all = used_later start middle (tag_texts n.tags) (named_user ++ used) e ∙ later in
    let before : old ≡ columns_of all ns = h (tag_texts n.tags ++ (named_user ++ used)) ∙ ap (λ (ts : List (List ℕ)). columns_of ts ns) all_later in
    let runs = r (named_user ++ used) ∙ ap (λ (ts : List (List ℕ)). old.runs ++ run_of ts n.tags) later in
    let users = ep ∙ ap (λ (o : Option ℤ). old.info.users ++ option_to_list o) (ap (option_map pos) (u used) ∙ named all n.meta.user) in
    let added : new ≡ joined old (columns_of all (n ∷ [])) =
    simp (one_listed, append-nil, or-false) (λ i. record {
      ids = (ei ∙ ap (λ (z : ℤ). old.ids ++ z ∷ []) di) i;
      lats = (ea ∙ ap (λ (z : ℤ). old.lats ++ z ∷ []) da) i;
      lons = (eo ∙ ap (λ (z : ℤ). old.lons ++ z ∷ []) dn) i;
      info = record { versions = ev i; timestamps = et i; changesets = ec i; uids = ex i; users = users i; visible = eb i };
      runs = runs i;
      tagged = eg i;
    }) in
    added ∙ ap (λ (c : DenseColumns). joined c (columns_of all (n ∷ []))) before ∙ sym (columns_both all ns (n ∷ []))

pub finished : (texts : List (List ℕ)) (ns : List NodeSpec) (columns : DenseColumns) (bytes info : List ℕ) → columns ≡ columns_of texts ns → info ≡ dense_info_message columns.info
    → bytes ≡ message (Column 1 (deltas columns.ids) ∷ Each 5 (unless_empty info) ∷ Column 8 (deltas columns.lats) ∷ Column 9 (deltas columns.lons) ∷ Column 10 (if columns.tagged then columns.runs else []) ∷ [])
    → bytes ≡ dense_message texts ns
unfolding dense_message
finished texts ns columns bytes info h i e =
    e ∙ (ap (λ (w : List ℕ). message (Column 1 (deltas columns.ids) ∷ Each 5 (unless_empty w) ∷ Column 8 (deltas columns.lats) ∷ Column 9 (deltas columns.lons) ∷ Column 10 (if columns.tagged then columns.runs else []) ∷ [])) i
    ∙ ap (λ (c : DenseColumns). message (dense_slots c)) h)

-- ---- what so many nodes have

abbrev pub texts_of : NodeSpec → NodeTexts
texts_of n = record { tags = n.tags; user = n.meta.user }

abbrev pub metas_of : List NodeSpec → List MetaSpec
metas_of ns = map (λ (n : NodeSpec). n.meta) ns

-- each column of the nodes is the same many of its entries
pub record AreFirst (table : List (List ℕ)) (count : ℕ) (ids lats lons : List ℤ) (info : InfoSpec) (keys_vals : List ℕ) (ns : List NodeSpec) : Type 0 where
  pub ids_are : map (λ (n : NodeSpec). n.id) ns ≡ take count ids
  pub lats_are : map (λ (n : NodeSpec). n.lat) ns ≡ take count lats
  pub lons_are : map (λ (n : NodeSpec). n.lon) ns ≡ take count lons
  pub versions : filter_map (λ (m : MetaSpec). option_map sign_extended m.version) (metas_of ns) ≡ map written_version (take count info.versions)
  pub timestamps : filter_map (λ (m : MetaSpec). m.timestamp) (metas_of ns) ≡ take count info.timestamps
  pub changesets : filter_map (λ (m : MetaSpec). m.changeset) (metas_of ns) ≡ take count info.changesets
  pub uids : filter_map (λ (m : MetaSpec). m.uid) (metas_of ns) ≡ take count info.uids
  pub visible : filter_map (λ (m : MetaSpec). option_map bit_of m.visible) (metas_of ns) ≡ map written_flag (take count info.visible)
  pub texts : map texts_of ns ≡ texts_along table count info.users keys_vals

first_value : (n : ℕ) (zs ys : List ℤ) → ys ≡ take n (drop 1 zs) → cons_option (slice_get zs 0) ys ≡ take (suc n) zs
first_value zero [] ys e = e
first_value (suc n) [] ys e = e
first_value n (z ∷ zs) ys e = ap (λ (l : List ℤ). z ∷ l) e

first_seen : {X Y Z : Type 0} (f : X → Y) (g : Y → Z) (n : ℕ) (xs : List X) (zs : List Z) → zs ≡ map (λ x. g (f x)) (take n (drop 1 xs)) → cons_option (option_map g (option_map f (slice_get xs 0))) zs ≡ map (λ x. g (f x)) (take (suc n) xs)
first_seen f g zero [] zs e = e
first_seen f g (suc n) [] zs e = e
first_seen {Z = Z} f g n (x ∷ xs) zs e = ap (λ (l : List Z). g (f x) ∷ l) e

pub first_nodes : (table : List (List ℕ)) (scale : Scale) (count : ℕ) (ids lats lons : List ℤ) (info : InfoSpec) (keys_vals : List ℕ) → count ≤ length (nodes_of_columns table scale ids lats lons info keys_vals)
    → AreFirst table count ids lats lons info keys_vals (take count (nodes_of_columns table scale ids lats lons info keys_vals))
first_nodes table scale zero ids lats lons info keys_vals many = record { ids_are = refl; lats_are = refl; lons_are = refl; versions = refl; timestamps = refl; changesets = refl; uids = refl; visible = refl; texts = refl }
first_nodes table scale (suc n) (id ∷ ids) (lat ∷ lats) (lon ∷ lons) info keys_vals many =
    let d = first_nodes table scale n ids lats lons (info_rest info) (after_run keys_vals) (omega (arith, many)) in
    record {
      ids_are = ap (λ (l : List ℤ). id ∷ l) d.ids_are;
      lats_are = ap (λ (l : List ℤ). lat ∷ l) d.lats_are;
      lons_are = ap (λ (l : List ℤ). lon ∷ l) d.lons_are;
      versions = first_seen low_i32 sign_extended n info.versions _ d.versions;
      timestamps = first_value n info.timestamps _ d.timestamps;
      changesets = first_value n info.changesets _ d.changesets;
      uids = first_value n info.uids _ d.uids;
      visible = first_seen (λ n. not (n == 0)) bit_of n info.visible _ d.visible;
      texts = ap (λ (l : List NodeTexts). record { tags = map (tag_of table) (run keys_vals); user = option_map (user_text table) (slice_get info.users 0) } ∷ l) d.texts;
    }
first_nodes table scale (suc n) ids lats lons info keys_vals many = absurd (omega (arith, many))

-- ---- the texts of nodes

pub used_by : (ns : List NodeSpec) → texts_used (map texts_of ns) ≡ flat_map node_texts ns
used_by ns = flat_map-map (λ (n : NodeTexts). tag_texts n.tags ++ option_to_list n.user) texts_of ns

runs_by : (texts : List (List ℕ)) (ns : List NodeSpec) → runs_for texts (map texts_of ns) ≡ flat_map (λ (n : NodeSpec). run_of texts n.tags) ns
runs_by texts ns = flat_map-map (λ (n : NodeTexts). run_of texts n.tags) texts_of ns

users_by : (texts : List (List ℕ)) (ns : List NodeSpec) → users_for texts (map texts_of ns) ≡ filter_map (λ (m : MetaSpec). user_index texts m.user) (metas_of ns)
users_by texts [] = refl
users_by texts (n ∷ ns) = ap (cons_option (user_index texts n.meta.user)) (users_by texts ns)

tagged_by : (ns : List NodeSpec) → any_tagged (map texts_of ns) ≡ list_any has_tag ns
tagged_by [] = refl
tagged_by (n ∷ ns) = ap (λ b. has_tag n || b) (tagged_by ns)

-- ---- more nodes in all columns

-- the columns with what else was written
pub written_after : (ns : List NodeTexts) (start texts : List (List ℕ)) (runs r more_runs : List ℕ) (users u more_users : List ℤ) (before now after : Bool) → TakesTexts ns start texts (columns_with runs users false) (columns_with r u now)
    → more_runs ≡ r → more_users ≡ u → after ≡ (before || now) → TakesTexts ns start texts (columns_with runs users before) (columns_with more_runs more_users after)
written_after ns start texts runs r more_runs users u more_users before now after h er eu eb = record {
  texts = h.texts;
  runs = λ used. er ∙ h.runs used;
  users = λ used. eu ∙ h.users used;
  tagged = eb ∙ ap (λ b. before || b) h.tagged;
}

-- what the columns hold then
abbrev pub held_with : List ℤ → List ℤ → List ℤ → InfoSpec → TextColumns → DenseColumns
held_with ids lats lons info texts = record { ids = ids; lats = lats; lons = lons; info = record info { users = texts.users }; runs = texts.runs; tagged = texts.tagged }

pub nodes_taken : (table : List (List ℕ)) (count : ℕ) (all_ids all_lats all_lons : List ℤ) (from rest : InfoSpec) (keys_vals : List ℕ) (more ns : List NodeSpec) (start texts used : List (List ℕ)) (old : DenseColumns) (ids lats lons : List ℤ) (mid info : InfoSpec) (written : TextColumns)
    → AreFirst table count all_ids all_lats all_lons from keys_vals more → ((used : List (List ℕ)) → old ≡ columns_of (texts_after start used) ns)
    → TakesTexts (texts_along table count from.users keys_vals) start texts (record { runs = old.runs; users = old.info.users; tagged = old.tagged }) written
    → TakesInfo count from rest mid info → mid ≡ record old.info { users = written.users }
    → ids ≡ old.ids ++ take count all_ids → lats ≡ old.lats ++ take count all_lats → lons ≡ old.lons ++ take count all_lons
    → held_with ids lats lons info written ≡ columns_of (texts_after texts used) (ns ++ more)
nodes_taken table count all_ids all_lats all_lons from rest keys_vals more ns start texts used old ids lats lons mid info written f h w i m ei ea eo =
    let all = texts_after texts used in
    let d = subst (λ (l : List NodeTexts). TakesTexts l start texts (record { runs = old.runs; users = old.info.users; tagged = old.tagged }) written) (sym f.texts) w in
    let e : old ≡ columns_of all ns = h (texts_used (map texts_of more) ++ used) ∙ ap (λ (ts : List (List ℕ)). columns_of ts ns) (used_later start texts (texts_used (map texts_of more)) used d.texts) in
    let k = subst (λ (q : InfoSpec). TakesInfo count from rest q info) m i in
    let added : held_with ids lats lons info written ≡ joined old (columns_of all more) =
    rw (ei, ea, eo, k.versions, k.timestamps, k.changesets, k.uids, k.visible, d.users used, d.runs used, d.tagged, users_by all more, runs_by all more, tagged_by more, f.ids_are, f.lats_are, f.lons_are, f.versions, f.timestamps, f.changesets, f.uids, f.visible) refl in
    added ∙ ap (λ (c : DenseColumns). joined c (columns_of all more)) e ∙ sym (columns_both all ns more)

-- ---- what is left

pub rest_is : (table t : List (List ℕ)) (scale s : Scale) (count : ℕ) (ids i lats a lons o : List ℤ) (info rest : InfoSpec) (users : List ℤ) (keys_vals k : List ℕ)
    → t ≡ table → s ≡ scale → i ≡ drop count ids → a ≡ drop count lats → o ≡ drop count lons → rest ≡ record (info_past count info) { users = info.users } → users ≡ drop count info.users → k ≡ after_runs count keys_vals
    → nodes_of_columns t s i a o (record rest { users = users }) k ≡ nodes_of_columns table scale (drop count ids) (drop count lats) (drop count lons) (info_past count info) (after_runs count keys_vals)
rest_is table t scale s count ids i lats a lons o info rest users keys_vals k et es ei ea eo er eu ek = rw (et, es, ei, ea, eo, er, eu, ek) refl
