-- The texts of nodes that are taken over, node by node.
use Rattle.std.proofs.Common.{◌≡◌, ℕ, zero, suc, ℤ, pos, ◌+◌, ◌-◌, ◌<◌, ◌≤◌, Bool, true, false, ◌||◌, List, [], ◌∷◌, ◌++◌, length, length-append, map, drop, Option, Some, None, sym, ap, ◌∙◌, arith, append_assoc, append-nil, subst}
use Rattle.std.specs.Prelude.{slice_get, Ok}
use Rattle.std.specs.List.{cons_option}
use Rattle.std.specs.Option.{option_map, option_to_list}
use Rattle.std.proofs.Math.Bool.{or_assoc, or-false}
use Rattle.pbf_strings.specs.TableOut.{with_text, texts_after, has_text, index_in, GivesIndex}
use Rattle.pbf_strings.proofs.UsedTexts.{any_with, has_after, index_after, index_later, length_after, recent_gives, used_both, used_later}
use Rattle.osm_entity.specs.Entity.{TagSpec}
use Rattle.osm_entity.specs.EntityTexts.{tag_texts}
use Rattle.osm_entity.specs.Sources.{tag_of, run}
use Rattle.osm_entity.proofs.TagLemmas.{run_ends, run_cut, run_goes_on}
use Rattle.pbf_dense.specs.Info.{user_text}
use Rattle.pbf_dense.specs.Runs.{after_run}
use Rattle.pbf_dense.specs.WrittenDense.{are_some, run_of}
use Rattle.pbf_dense.proofs.MovingLemmas.{drop_one}
use Rattle.pbf_dense.specs.NodeTexts.{NodeTexts, texts_along, texts_used, runs_for, user_index, users_for, any_tagged, TextColumns, TakesTexts, IsKnown}

-- of all nodes these are left: their texts and numbers go on from this state
pub record TextsGoOn (start : List (List ℕ)) (all : List NodeTexts) (before : TextColumns) (texts : List (List ℕ)) (now : TextColumns) (left : List NodeTexts) : Type 0 where
  pub texts_are : texts_after texts (texts_used left) ≡ texts_after start (texts_used all)
  pub runs_are : (used : List (List ℕ)) → now.runs ++ runs_for (texts_after texts (texts_used left ++ used)) left ≡ before.runs ++ runs_for (texts_after texts (texts_used left ++ used)) all
  pub users_are : (used : List (List ℕ)) → now.users ++ users_for (texts_after texts (texts_used left ++ used)) left ≡ before.users ++ users_for (texts_after texts (texts_used left ++ used)) all
  pub tagged_is : (now.tagged || any_tagged left) ≡ (before.tagged || any_tagged all)
  pub room : length texts + length (texts_used left) ≤ 1048575

pub all_taken : (start : List (List ℕ)) (all : List NodeTexts) (before : TextColumns) (texts : List (List ℕ)) (now : TextColumns) (left : List NodeTexts)
    → TextsGoOn start all before texts now left → left ≡ [] → TakesTexts all start texts before now
all_taken start all before texts now left h e =
    let d = subst (λ (ns : List NodeTexts). TextsGoOn start all before texts now ns) e h in
    record {
      texts = d.texts_are;
      runs = λ used. sym (append-nil now.runs) ∙ d.runs_are used;
      users = λ used. sym (append-nil now.users) ∙ d.users_are used;
      tagged = sym (or-false now.tagged) ∙ d.tagged_is;
    }

one_more : {Y : Type 0} (ys : List Y) (o : Option Y) (rest : List Y) → (ys ++ option_to_list o) ++ rest ≡ ys ++ cons_option o rest
one_more ys None rest = ap (λ zs. zs ++ rest) (append-nil ys)
one_more ys (Some y) rest = append_assoc ys (y ∷ []) rest

-- one more node is taken
pub node_taken : (start : List (List ℕ)) (all : List NodeTexts) (before : TextColumns) (texts middle later : List (List ℕ)) (now next : TextColumns) (was left : List NodeTexts) (n : NodeTexts)
    → TextsGoOn start all before texts now was → was ≡ n ∷ left → middle ≡ texts_after texts (tag_texts n.tags) → later ≡ texts_after middle (option_to_list n.user)
    → ((used : List (List ℕ)) → next.runs ≡ now.runs ++ run_of (texts_after middle used) n.tags)
    → ((used : List (List ℕ)) → next.users ≡ now.users ++ option_to_list (user_index (texts_after later used) n.user))
    → next.tagged ≡ (now.tagged || are_some n.tags)
    → TextsGoOn start all before later next left
node_taken start all before texts middle later now next was left n h is em el runs users tagged =
    let d = subst (λ (ns : List NodeTexts). TextsGoOn start all before texts now ns) is h in
    let own = tag_texts n.tags ++ option_to_list n.user in
    let both : later ≡ texts_after texts own = used_both texts middle later (tag_texts n.tags) (option_to_list n.user) em el in
    let after : (used : List (List ℕ)) → texts_after texts (texts_used (n ∷ left) ++ used) ≡ texts_after later (texts_used left ++ used) =
    λ used. ap (texts_after texts) (append_assoc own (texts_used left) used) ∙ used_later texts later own (texts_used left ++ used) both in
    record {
      texts_are = sym (used_later texts later own (texts_used left) both) ∙ d.texts_are;
      runs_are = λ used.
          let all_texts = texts_after later (texts_used left ++ used) in
          let one : next.runs ≡ now.runs ++ run_of all_texts n.tags = runs (option_to_list n.user ++ (texts_used left ++ used)) ∙ ap (λ (ts : List (List ℕ)). now.runs ++ run_of ts n.tags) (used_later middle later (option_to_list n.user) (texts_used left ++ used) el) in
          ap (λ (xs : List ℕ). xs ++ runs_for all_texts left) one
          ∙ append_assoc now.runs (run_of all_texts n.tags) (runs_for all_texts left)
          ∙ subst (λ (ts : List (List ℕ)). now.runs ++ runs_for ts (n ∷ left) ≡ before.runs ++ runs_for ts all) (after used) (d.runs_are used);
      users_are = λ used.
          let all_texts = texts_after later (texts_used left ++ used) in
          ap (λ (xs : List ℤ). xs ++ users_for all_texts left) (users (texts_used left ++ used))
          ∙ one_more now.users (user_index all_texts n.user) (users_for all_texts left)
          ∙ subst (λ (ts : List (List ℕ)). now.users ++ users_for ts (n ∷ left) ≡ before.users ++ users_for ts all) (after used) (d.users_are used);
      tagged_is = ap (λ (b : Bool). b || any_tagged left) tagged ∙ or_assoc now.tagged (are_some n.tags) (any_tagged left) ∙ d.tagged_is;
      room =
          let q = d.room in
          let l = length_after own texts in
          omega (arith, q, l, ap length both, length-append own (texts_used left));
    }

-- room for the tags of the next node, and then for its user
pub room_for_tags : (start : List (List ℕ)) (all : List NodeTexts) (before : TextColumns) (texts : List (List ℕ)) (now : TextColumns) (was left : List NodeTexts) (n : NodeTexts)
    → TextsGoOn start all before texts now was → was ≡ n ∷ left → length texts + length (tag_texts n.tags) ≤ 1048575
room_for_tags start all before texts now was left n h is =
    let d = subst (λ (ns : List NodeTexts). TextsGoOn start all before texts now ns) is h in
    let q = d.room in
    omega (arith, q, length-append (tag_texts n.tags ++ option_to_list n.user) (texts_used left), length-append (tag_texts n.tags) (option_to_list n.user))

pub room_for_user : (start : List (List ℕ)) (all : List NodeTexts) (before : TextColumns) (texts middle : List (List ℕ)) (now : TextColumns) (was left : List NodeTexts) (n : NodeTexts)
    → TextsGoOn start all before texts now was → was ≡ n ∷ left → middle ≡ texts_after texts (tag_texts n.tags) → length middle + length (option_to_list n.user) ≤ 1048575
room_for_user start all before texts middle now was left n h is em =
    let d = subst (λ (ns : List NodeTexts). TextsGoOn start all before texts now ns) is h in
    let q = d.room in
    let l = length_after (tag_texts n.tags) texts in
    omega (arith, q, l, ap length em, length-append (tag_texts n.tags ++ option_to_list n.user) (texts_used left), length-append (tag_texts n.tags) (option_to_list n.user))

-- ---- along the columns

abbrev pub first_texts : List (List ℕ) → List ℤ → List ℕ → NodeTexts
first_texts table users keys_vals = record { tags = map (tag_of table) (run keys_vals); user = option_map (user_text table) (slice_get users 0) }

pub one_along : (table : List (List ℕ)) (left : ℕ) (users more_users : List ℤ) (keys_vals rest : List ℕ) → 0 < left → more_users ≡ drop 1 users → rest ≡ after_run keys_vals
    → texts_along table left users keys_vals ≡ first_texts table users keys_vals ∷ texts_along table (left - 1) more_users rest
one_along table zero users more_users keys_vals rest some e f = absurd (omega arith)
one_along table (suc n) users more_users keys_vals rest some e f =
    let less : n ≡ suc n - 1 = omega arith in
    rw (e, f) (ap (λ (m : ℕ). first_texts table users keys_vals ∷ texts_along table m (drop 1 users) (after_run keys_vals)) less)

pub none_along : (table : List (List ℕ)) (left : ℕ) (users : List ℤ) (keys_vals : List ℕ) → left ≡ 0 → texts_along table left users keys_vals ≡ []
none_along table left users keys_vals e = ap (λ (n : ℕ). texts_along table n users keys_vals) e

pub one_passed : (left : ℕ) (zs : List ℤ) → 0 < left → drop (left - 1) (drop 1 zs) ≡ drop left zs
one_passed zero zs some = absurd (omega arith)
one_passed (suc n) zs some =
    let less : suc n - 1 ≡ n = omega arith in
    ap (λ (m : ℕ). drop m (drop 1 zs)) less ∙ sym (drop_one n zs)

-- ---- the last user

pub known_later : (table texts used later : List (List ℕ)) (user : ℤ) (index : ℕ) → IsKnown table texts user index → later ≡ texts_after texts used → IsKnown table later user index
known_later table texts used later user index h e = rw e (record {
  named = λ some. has_after used texts (user_text table user) (h.named some);
  index_is = λ some. h.index_is some ∙ sym (index_after used texts (user_text table user) (h.named some));
})

pub known_now : (table old new : List (List ℕ)) (user : ℤ) (index : ℕ) → new ≡ with_text old (user_text table user) → index ≡ index_in new (user_text table user) → IsKnown table new user index
known_now table old new user index e h = record {
  named = λ _. subst (λ (ts : List (List ℕ)). has_text ts (user_text table user) ≡ true) (sym e) (any_with old (user_text table user));
  index_is = λ _. h;
}

-- ---- the next key and its value

pub ruleset pair_steps = (run_ends, run_cut, run_goes_on)

-- ---- indexes of users

pub known_gives : {E : Type 0} (table texts : List (List ℕ)) (last user : ℤ) (index : ℕ) → IsKnown table texts last index → 0 < index → last ≡ user → GivesIndex {E = E} (user_text table user) texts texts (Ok index)
known_gives table texts last user index h some same = rw (sym same) (recent_gives texts (user_text table last) index (h.named some, h.index_is some))

pub index_added : (table old new used : List (List ℕ)) (first : Option ℤ) (user : ℤ) (index : ℕ) (before after : List ℤ) → Some user ≡ first → new ≡ with_text old (user_text table user) → index ≡ index_in new (user_text table user) → after ≡ before ++ pos index ∷ []
    → after ≡ before ++ option_to_list (user_index (texts_after new used) (option_map (user_text table) first))
index_added table old new used first user index before after is texts indexed e =
    rw (sym is) (e ∙ ap (λ (i : ℕ). before ++ pos i ∷ []) (index_later used old new (user_text table user) index texts indexed))

-- ---- the tags of one node

pub tag_seen : (before all : Bool) (was left : List TagSpec) (tag : TagSpec) → was ≡ tag ∷ left → (before || are_some was) ≡ all → true ≡ all
tag_seen true all was left tag is h = h
tag_seen false all was left tag is h = sym (ap are_some is) ∙ h
