-- Texts, and the keys that hold them.
use Rattle.std.proofs.Common.{◌≡◌, ℕ, zero, suc, arith, ◌+◌, ◌≤◌, length, length-append, add_comm, List, [], ◌∷◌, ◌++◌, true, false, cond, ◌||◌, Some, map, refl, sym, ap, ◌∙◌, subst, position, ◌<◌}
use Rattle.std.proofs.lemmas.List.{map-append}
use Rattle.std.specs.List.{list_any, position_or_len, AllByRecursion, IsDistinct}
use Rattle.std.specs.Str.{bytes_eq}
use Rattle.std.specs.Cmp.Lexicographic.{nat_list_eq_equiv}
use Rattle.std.proofs.lemmas.Slice.Eq.{bytes_eq-Decides}
use Rattle.std.specs.Prelude.{slice_get, Ok}
use Rattle.std.proofs.lemmas.List.Recursion.{is_position_or_len}
use Rattle.std.proofs.lemmas.Option.{cond_some}
use Rattle.pbf_strings.specs.TableOut.{has_text, with_text, texts_after, place_in, index_in, table_of, GivesIndex}

pub same_text : (text : List ℕ) → bytes_eq text text ≡ true
same_text text = nat_list_eq_equiv.refl text

-- a text that is used keeps its place as it is added
place_push : (texts : List (List ℕ)) (text : List ℕ) → place_in (texts ++ text ∷ []) text ≡ place_in texts text
place_push [] text = rw (same_text text) refl
place_push (first ∷ texts) text = ap (λ n. cond (bytes_eq text first) 0 (1 + n)) (place_push texts text)

pub place_with : (texts : List (List ℕ)) (text : List ℕ) → place_in (with_text texts text) text ≡ place_in texts text
place_with texts text = grind (arith, place_push texts text)

module _ {K : Type 0} (items : K → List ℕ) where
  pub any_map : (text : List ℕ) (keys : List K) → list_any (bytes_eq text) (map items keys) ≡ list_any (λ key. bytes_eq text (items key)) keys
  any_map text [] = refl
  any_map text (key ∷ keys) = ap (λ b. bytes_eq text (items key) || b) (any_map text keys)

  pub kept : (text : List ℕ) (keys : List K) → list_any (λ key. bytes_eq text (items key)) keys ≡ true → map items keys ≡ with_text (map items keys) text
  kept text keys h = sym (ap (λ b. cond b (map items keys) (map items keys ++ text ∷ [])) (any_map text keys ∙ h))

  pub added : (text : List ℕ) (keys : List K) (key : K) → items key ≡ text
      → map items (cond (list_any (λ k. bytes_eq (items key) (items k)) keys) keys (keys ++ key ∷ [])) ≡ with_text (map items keys) text
  added text keys key h = grind (arith, h, any_map (items key) keys, map-append items keys (key ∷ []))

  -- a text that is not found is not among them
  pub not_missing : (text : List ℕ) (keys : List K) → list_any (λ key. bytes_eq text (items key)) keys ≡ false → has_text (map items keys) text ≡ true → ⊥
  not_missing text keys e h = let f = sym e ∙ (sym (any_map text keys) ∙ h) in cc

  pub place_is : (text : List ℕ) (keys : List K) → position_or_len (λ key. bytes_eq text (items key)) keys ≡ place_in (map items keys) text
  place_is text keys = sym (is_position_or_len (λ ks. place_in (map items ks) text) (λ key. bytes_eq text (items key)) refl (λ k ks. refl) keys)

  pub place_found : (text : List ℕ) (keys : List K) (place : ℕ) → Some place ≡ position (λ key. bytes_eq text (items key)) keys → place ≡ place_in (map items keys) text
  place_found text keys place h = sym (cond_some _ _ _ (sym h)).1 ∙ place_is text keys

-- ---- the index of a text names it

any_push : (texts : List (List ℕ)) (text : List ℕ) → list_any (bytes_eq text) (texts ++ text ∷ []) ≡ true
any_push [] text = rw (same_text text) refl
any_push (first ∷ texts) text = grind (arith, any_push texts text)

pub any_with : (texts : List (List ℕ)) (text : List ℕ) → list_any (bytes_eq text) (with_text texts text) ≡ true
any_with texts text = grind (arith, any_push texts text)

at_next : (first : List ℕ) (texts : List (List ℕ)) (n : ℕ) → slice_get (first ∷ texts) (1 + n) ≡ slice_get texts n
at_next first texts n = let e : 1 + n ≡ suc n = omega arith in ap (λ (k : ℕ). slice_get (first ∷ texts) k) e

found_at : (texts : List (List ℕ)) (text : List ℕ) → list_any (bytes_eq text) texts ≡ true → slice_get texts (place_in texts text) ≡ Some text
found_at [] text h = absurd cc
found_at (first ∷ texts) text h = grind (arith, h, found_at texts text, bytes_eq-Decides text first, at_next first texts (place_in texts text))

-- the table has a text that is among the texts at its index
pub text_at_index : (texts : List (List ℕ)) (text : List ℕ) → has_text texts text ≡ true → slice_get (table_of texts) (index_in texts text) ≡ Some text
text_at_index texts text h = grind (arith, add_comm (place_in texts text) 1, at_next [] texts (place_in texts text), found_at texts text h)

pub text_named : (texts : List (List ℕ)) (text : List ℕ) → slice_get (table_of (with_text texts text)) (index_in (with_text texts text) text) ≡ Some text
text_named texts text = text_at_index (with_text texts text) text (any_with texts text)

-- the index of a text that is there
pub recent_gives : {E : Type 0} (texts : List (List ℕ)) (text : List ℕ) (index : ℕ) → (has_text texts text ≡ true) × (index ≡ index_in texts text) → GivesIndex {E = E} text texts texts (Ok index)
recent_gives texts text index found = record {
  texts = grind (arith, found.0);
  index = found.1;
  named = grind (arith, found.1, text_at_index texts text found.0);
  known = λ _. refl;
  err = tt;
}

place_below : (texts : List (List ℕ)) (text : List ℕ) → has_text texts text ≡ true → place_in texts text < length texts
place_below [] text h = absurd cc
place_below (first ∷ texts) text h = grind (arith, h, place_below texts text)

pub index_below : (texts : List (List ℕ)) (text : List ℕ) → has_text texts text ≡ true → index_in texts text < length (table_of texts)
index_below texts text h = omega (arith, place_below texts text h)

-- ---- a text keeps its index as more texts are used

any_more : (texts : List (List ℕ)) (text other : List ℕ) → has_text texts text ≡ true → has_text (texts ++ other ∷ []) text ≡ true
any_more [] text other h = absurd cc
any_more (first ∷ texts) text other h = grind (arith, h, any_more texts text other)

has_more : (texts : List (List ℕ)) (text other : List ℕ) → has_text texts text ≡ true → has_text (with_text texts other) text ≡ true
has_more texts text other h = grind (arith, h, any_more texts text other)

place_more : (texts : List (List ℕ)) (text other : List ℕ) → has_text texts text ≡ true → place_in (texts ++ other ∷ []) text ≡ place_in texts text
place_more [] text other h = absurd cc
place_more (first ∷ texts) text other h = grind (arith, h, place_more texts text other)

place_kept : (texts : List (List ℕ)) (text other : List ℕ) → has_text texts text ≡ true → place_in (with_text texts other) text ≡ place_in texts text
place_kept texts text other h = grind (arith, place_more texts text other h)

pub has_after : (used texts : List (List ℕ)) (text : List ℕ) → has_text texts text ≡ true → has_text (texts_after texts used) text ≡ true
has_after [] texts text h = h
has_after (other ∷ used) texts text h = has_after used (with_text texts other) text (has_more texts text other h)

-- each text that is used is among the texts
pub has_used : (used texts : List (List ℕ)) → AllByRecursion (λ text. has_text (texts_after texts used) text ≡ true) used
has_used [] texts = tt
has_used (text ∷ used) texts = (has_after used (with_text texts text) text (any_with texts text), has_used used (with_text texts text))

pub index_after : (used texts : List (List ℕ)) (text : List ℕ) → has_text texts text ≡ true → index_in (texts_after texts used) text ≡ index_in texts text
index_after [] texts text h = refl
index_after (other ∷ used) texts text h = index_after used (with_text texts other) text (has_more texts text other h) ∙ ap (λ n. n + 1) (place_kept texts text other h)

-- the index that a text is given stays, whatever texts are used later
pub index_stays : (used texts : List (List ℕ)) (text : List ℕ) → index_in (texts_after (with_text texts text) used) text ≡ index_in (with_text texts text) text
index_stays used texts text = index_after used (with_text texts text) text (any_with texts text)

pub after_both : (used more texts : List (List ℕ)) → texts_after texts (used ++ more) ≡ texts_after (texts_after texts used) more
after_both [] more texts = refl
after_both (text ∷ used) more texts = after_both used more (with_text texts text)

-- one more text at most
pub length_with : (texts : List (List ℕ)) (text : List ℕ) → length (with_text texts text) ≤ length texts + 1
length_with texts text = grind (arith, length-append texts (text ∷ []))

pub length_after : (used texts : List (List ℕ)) → length (texts_after texts used) ≤ length texts + length used
length_after [] texts = omega arith
length_after (text ∷ used) texts = let rest = length_after used (with_text texts text) in omega (arith, rest, length_with texts text)

-- an index that was given, in the table after more texts are used
pub index_later : (used old new : List (List ℕ)) (text : List ℕ) (index : ℕ) → new ≡ with_text old text → index ≡ index_in new text → index ≡ index_in (texts_after new used) text
index_later used old new text index e h = grind (arith, e, h, index_stays used old text)

-- there is room for the texts that are still to be used
pub room_left : (start texts used : List (List ℕ)) (n : ℕ) → texts ≡ texts_after start used → length start + (length used + n) ≤ 1048575 → length texts + n ≤ 1048575
room_left start texts used n e h = rw e (let l = length_after used start in omega (arith, l, h))

pub used_both : (start middle texts used more : List (List ℕ)) → middle ≡ texts_after start used → texts ≡ texts_after middle more → texts ≡ texts_after start (used ++ more)
used_both start middle texts used more e f = grind (arith, e, f, after_both used more start)

-- the table with some texts used, and then others
pub used_later : (middle texts more used : List (List ℕ)) → texts ≡ texts_after middle more → texts_after middle (more ++ used) ≡ texts_after texts used
used_later middle texts more used e = grind (arith, e, after_both more used middle)

-- ---- a text that is somewhere, if none is there twice

module _ {K : Type 0} (items : K → List ℕ) where
  pub stands : (keys : List K) (i : ℕ) (key : K) → slice_get keys i ≡ Some key → has_text (map items keys) (items key) ≡ true
  stands [] i key h = absurd cc
  stands (first ∷ keys) zero key h = let e : first ≡ key = cc in rw (e, same_text (items key)) refl
  stands (first ∷ keys) (suc i) key h = grind (arith, stands keys i key h)

  unlike : (first : K) (keys : List K) → AllByRecursion (λ y. bytes_eq (items first) (items y) ≡ false) keys → (i : ℕ) (key : K) → slice_get keys i ≡ Some key → bytes_eq (items key) (items first) ≡ false
  unlike first [] all i key h = absurd cc
  unlike first (x ∷ keys) all zero key h = let e : x ≡ key = cc in nat_list_eq_equiv.symm (items key) (items first) ∙ subst (λ k. bytes_eq (items first) (items k) ≡ false) e all.0
  unlike first (x ∷ keys) all (suc i) key h = unlike first keys all.1 i key h

  pub place_at : (keys : List K) → IsDistinct (λ x y. bytes_eq (items x) (items y)) keys → (i : ℕ) (key : K) → slice_get keys i ≡ Some key → place_in (map items keys) (items key) ≡ i
  unfolding IsDistinct
  place_at [] distinct i key h = absurd cc
  place_at (first ∷ keys) distinct zero key h = let e : first ≡ key = cc in rw (e, same_text (items key)) refl
  place_at (first ∷ keys) distinct (suc i) key h = let e : 1 + i ≡ suc i = omega arith in rw (unlike first keys distinct.0 i key h) (ap (λ n. 1 + n) (place_at keys distinct.1 i key h) ∙ e)
