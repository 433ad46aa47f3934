-- The texts of a StringTable, one after the other.
use Rattle.std.proofs.Common.{◌≡◌, cond, eqb, ◌++◌, ℕ, zero, suc, ◌+◌, ◌-◌, ◌<◌, ◌≤◌, List, [], ◌∷◌, length, take, drop, get_or, subst, refl, sym, ap, ◌∙◌, arith}
use Rattle.std.specs.Prelude.{Option, Some, None, Result, Ok, Err, nat_lt, false}
use Rattle.std.specs.List.{AllByRecursion, cons_option, flat_map}
use Rattle.std.proofs.lemmas.List.{length-drop, drop-drop, drop_all}
use Rattle.pbf_wire.specs.declared.fault.Reason.{Reason}
use Rattle.pbf_wire.specs.Occurrence.{Content, Number, unplaced, without_places, Occurrence, Item, items, items_past, items_from, occurrence_at, body_at, found}
use Rattle.pbf_wire.specs.Reading.{each, bytes_held, bytes_in, bytes_of}
use Rattle.pbf_wire.proofs.Cutting.{front_ok}
use Rattle.pbf_wire.proofs.PlaceLemmas.{same_at}
use Rattle.pbf_wire.proofs.Varints.{one_byte}
use Rattle.pbf_wire.specs.Varint.{varint_at}
use Rattle.std.proofs.lemmas.Bool.Decides.{nat_tests}
use Rattle.pbf_strings.specs.Texts.{texts, text_at, first_text}

-- the text of the occurrence is found at its place
pub record IsAtPlace (message : List ℕ) (o : Occurrence) : Type 0 where
  pub within : o.place < length message
  pub found_there : text_at message o.place ≡ bytes_held o.content

behind : (at b : ℕ) (bs whole : List ℕ) → b ∷ bs ≡ drop at whole → bs ≡ drop (at + 1) whole
behind at b bs whole e = ap (drop 1) e ∙ drop-drop 1 at whole

-- after the message there is no text
pub no_text : (message : List ℕ) (place : ℕ) → length message ≤ place → text_at message place ≡ []
unfolding text_at items_past
no_text message place le = ap (λ (w : List ℕ). first_text (items place w)) (drop_all place message le)

inside : (at b : ℕ) (bs whole : List ℕ) → b ∷ bs ≡ drop at whole → at < length whole
inside at b bs whole e = omega (arith, length-drop at whole, ap (λ (w : List ℕ). length w) e)

here : (at b : ℕ) (bs whole : List ℕ) (front : Occurrence × ℕ) → b ∷ bs ≡ drop at whole → occurrence_at at (b ∷ bs) ≡ Ok front → text_at whole at ≡ bytes_held front.0.content
unfolding text_at items_past
here at b bs whole front e ok =
    ap (λ (w : List ℕ). first_text (items at w)) (sym e) ∙ ap (λ (r : Result (Occurrence × ℕ) Reason). first_text (items_from at r (λ skip. items_past skip (at + 1) bs))) ok

module _ (whole : List ℕ) where
  from_front : (at b : ℕ) (bs : List ℕ) (r : Result (Occurrence × ℕ) Reason) → b ∷ bs ≡ drop at whole → occurrence_at at (b ∷ bs) ≡ r → ((k : ℕ) → AllByRecursion (IsAtPlace whole) (found (items_past k (at + 1) bs)))
      → AllByRecursion (IsAtPlace whole) (found (items_from at r (λ skip. items_past skip (at + 1) bs)))
  from_front at b bs (Ok front) e is more =
      let place = (front_ok at (b ∷ bs) front is).place in
      (record { within = omega (arith, inside at b bs whole e); found_there = ap (text_at whole) place ∙ here at b bs whole front e is }, more (front.1 - 1))
  from_front at b bs (Err reason) e is more = tt

  past : (skip at : ℕ) (m : List ℕ) → m ≡ drop at whole → AllByRecursion (IsAtPlace whole) (found (items_past skip at m))
  unfolding items_past
  past skip at [] e = tt
  past (suc skip) at (b ∷ bs) e = past skip (at + 1) bs (behind at b bs whole e)
  past zero at (b ∷ bs) e = from_front at b bs (occurrence_at at (b ∷ bs)) e refl (λ k. past k (at + 1) bs (behind at b bs whole e))

  -- the text of each field is found at the field's place
  pub all_at_place : AllByRecursion (IsAtPlace whole) (found (items 0 whole))
  all_at_place = past 0 0 whole refl

-- no more texts than bytes
from_one : (at : ℕ) (r : Result (Occurrence × ℕ) Reason) (more : ℕ → List Item) (n : ℕ) → ((k : ℕ) → length (found (more k)) ≤ n) → length (found (items_from at r more)) ≤ n + 1
from_one at (Ok front) more n h = omega (arith, h (front.1 - 1))
from_one at (Err e) more n h = omega arith

found_past : (skip at : ℕ) (m : List ℕ) → length (found (items_past skip at m)) ≤ length m
unfolding items_past
found_past skip at [] = omega arith
found_past (suc skip) at (b ∷ bs) = omega (arith, found_past skip (at + 1) bs)
found_past zero at (b ∷ bs) = omega (arith, from_one at (occurrence_at at (b ∷ bs)) (λ skip. items_past skip (at + 1) bs) (length bs) (λ k. found_past k (at + 1) bs))

each_within : (k : ℕ) (os : List Occurrence) → length (each k os) ≤ length os
each_within k [] = omega arith
each_within k (o ∷ os) =
    elim (bytes_of k o) as (λ t. length (cons_option t (each k os)) ≤ suc (length os)) [ None ↦ omega (arith, each_within k os) | Some t ↦ omega (arith, each_within k os) ]

pub texts_few : (message : List ℕ) → length (texts message) ≤ length message
texts_few message = omega (arith, each_within 1 (found (items 0 message)), found_past 0 0 message)

-- the texts are the same at each place
abbrev one_text : Occurrence → List (List ℕ)
one_text o = cons_option (bytes_of 1 o) []

each_is : (os : List Occurrence) → each 1 os ≡ flat_map one_text os
each_is [] = refl
each_is (o ∷ os) = elim (bytes_of 1 o) as (λ t. cons_option t (each 1 os) ≡ cons_option t [] ++ flat_map one_text os) [ None ↦ each_is os | Some t ↦ ap (λ (w : List (List ℕ)). t ∷ w) (each_is os) ]

same_bytes : (c : Content) → bytes_in c ≡ bytes_in (unplaced c)
same_bytes (Number v) = refl
same_bytes c = refl

without : (o : Occurrence) → one_text o ≡ one_text (without_places o)
without o = ap (λ (t : Option (List ℕ)). cons_option (cond (eqb o.number 1) t None) []) (same_bytes o.content)

pub texts_at : (at : ℕ) (message : List ℕ) → each 1 (found (items at message)) ≡ texts message
texts_at at message = each_is (found (items at message)) ∙ same_at one_text without at 0 message ∙ sym (each_is (found (items 0 message)))

-- ---- a text whose tag and length take one byte each

-- a byte below 128 is a number by itself
alone : (b : ℕ) (bs : List ℕ) → b < 128 → varint_at (b ∷ bs) ≡ Ok (b, 1)
alone b bs h = one_byte (b ∷ bs) (omega arith) h

enough_bytes : (n : ℕ) (bs : List ℕ) → n ≤ length bs → nat_lt (length bs) n ≡ false
enough_bytes n bs le = grind (arith, nat_tests)

short_spelled : (at size : ℕ) (bs : List ℕ) → size < 128 → size ≤ length bs → first_text (items at (10 ∷ size ∷ bs)) ≡ take size bs
unfolding items_past occurrence_at body_at
short_spelled at size bs small le = rw (alone 10 (size ∷ bs) (omega arith), alone size bs small, enough_bytes size bs le) refl

pub short_text_is : (at : ℕ) (bs : List ℕ) (size : ℕ) → 1 < length bs → get_or bs 0 0 ≡ 10 → get_or bs 1 0 ≡ size → size < 128 → size ≤ length bs - 2 → first_text (items at bs) ≡ take size (drop 2 bs)
short_text_is at (b ∷ c ∷ bs) size two tag length_is small le =
    subst (λ x. first_text (items at (x ∷ c ∷ bs)) ≡ take size bs) (sym tag)
    (subst (λ x. first_text (items at (10 ∷ x ∷ bs)) ≡ take size bs) (sym length_is) (short_spelled at size bs small (omega arith)))
short_text_is at bs size two tag length_is small le = absurd (omega arith)
