-- What is read of a message doesn't depend on its place.
use Rattle.std.proofs.Common.{◌≡◌, ℕ, zero, suc, ◌+◌, ◌/◌, ◌%◌, ◌^◌, Bool, cond, eqb, ltb, List, [], ◌∷◌, length, take, drop, map, refl, sym, ap, ◌∙◌, arith}
use Rattle.std.specs.Prelude.{Option, None, Result, Ok, Err, filter, ◌==◌}
use Rattle.std.specs.List.{flat_map, last_or}
use Rattle.std.specs.Option.{option_map}
use Rattle.std.proofs.lemmas.List.Concat.{flat_map_single}
use Rattle.pbf_wire.specs.declared.fault.Reason.{Reason}
use Rattle.pbf_wire.specs.declared.fault.Reason.TheVariants.{LengthPast, NumberZero, TagLarge}
use Rattle.pbf_wire.specs.declared.kind.Kind.{Kind}
use Rattle.pbf_wire.specs.Reading.{last_of}
use Rattle.pbf_wire.specs.Varint.{varint_at}
use Rattle.pbf_wire.specs.Wire.{reason_in, wire}
use Rattle.pbf_wire.specs.Occurrence.{Content, Bytes, Occurrence, Item, ◌>>=◌, body_at, occurrence_at, items_from, items_past, items, found, unplaced, without_places}

abbrev bare_body : Result (Content × ℕ) Reason → Result (Content × ℕ) Reason
bare_body (Ok p) = Ok (unplaced p.0, p.1)
bare_body (Err r) = Err r

abbrev bare_front : Result (Occurrence × ℕ) Reason → Result (Occurrence × ℕ) Reason
bare_front (Ok p) = Ok (without_places p.0, p.1)
bare_front (Err r) = Err r

abbrev sized : List ℕ → ℕ → ℕ × ℕ → Result (Content × ℕ) Reason
sized bytes at n = cond (ltb (length (drop n.1 bytes)) n.0) (Err LengthPast) (Ok (Bytes (take n.0 (drop n.1 bytes)) (at + n.1), n.1 + n.0))

sized_same : (bytes : List ℕ) (at bt : ℕ) (r : Result (ℕ × ℕ) Reason) → bare_body (r >>= sized bytes at) ≡ bare_body (r >>= sized bytes bt)
sized_same bytes at bt r = grind arith

body_cases : (a b c : Bool) (x y z : Result (Content × ℕ) Reason) (s t : Result (Content × ℕ) Reason) → bare_body s ≡ bare_body t → bare_body (cond a x (cond b y (cond c s z))) ≡ bare_body (cond a x (cond b y (cond c t z)))
body_cases a b c x y z s t h = grind arith

body_same : (kind at bt : ℕ) (bytes : List ℕ) → bare_body (body_at kind at bytes) ≡ bare_body (body_at kind bt bytes)
unfolding body_at
body_same kind at bt bytes = body_cases (eqb kind 0) (eqb kind 1) (eqb kind 2) _ _ _ _ _ (sized_same bytes at bt (varint_at bytes))

abbrev framed : ℕ → ℕ × ℕ → Content × ℕ → Result (Occurrence × ℕ) Reason
framed at tag body = Ok (record { place = at; number = tag.0 / 8; content = body.0 }, tag.1 + body.1)

framed_same : (at bt : ℕ) (tag : ℕ × ℕ) (r s : Result (Content × ℕ) Reason) → bare_body r ≡ bare_body s → bare_front (r >>= framed at tag) ≡ bare_front (s >>= framed bt tag)
framed_same at bt tag r s h = grind arith

front_cases : (a b : Bool) (x y : Result (Occurrence × ℕ) Reason) (s t : Result (Occurrence × ℕ) Reason) → bare_front s ≡ bare_front t → bare_front (cond a (cond b x s) y) ≡ bare_front (cond a (cond b x t) y)
front_cases a b x y s t h = grind arith

front_same : (at bt : ℕ) (bytes : List ℕ) → bare_front (occurrence_at at bytes) ≡ bare_front (occurrence_at bt bytes)
unfolding occurrence_at
front_same at bt bytes =
    elim (varint_at bytes) as (λ r. bare_front (r >>= λ tag. cond (ltb tag.0 (2 ^ 32)) (cond (eqb (tag.0 / 8) 0) (Err NumberZero) (body_at (tag.0 % 8) (at + tag.1) (drop tag.1 bytes) >>= framed at tag)) (Err TagLarge))
    ≡ bare_front (r >>= λ tag. cond (ltb tag.0 (2 ^ 32)) (cond (eqb (tag.0 / 8) 0) (Err NumberZero) (body_at (tag.0 % 8) (bt + tag.1) (drop tag.1 bytes) >>= framed bt tag)) (Err TagLarge))) [
      | Err e ↦ refl
      | Ok tag ↦ front_cases (ltb tag.0 (2 ^ 32)) (eqb (tag.0 / 8) 0) _ _ _ _ (framed_same at bt tag _ _ (body_same (tag.0 % 8) (at + tag.1) (bt + tag.1) (drop tag.1 bytes)))
    ]

module _ {X : Type 0} (f : Occurrence → List X) (blind : (o : Occurrence) → f o ≡ f (without_places o)) where
  abbrev got : List Item → List X
  got xs = flat_map f (found xs)

  fronts : (at bt : ℕ) (r s : Result (Occurrence × ℕ) Reason) (more others : ℕ → List Item) → bare_front r ≡ bare_front s → ((k : ℕ) → got (more k) ≡ got (others k)) → got (items_from at r more) ≡ got (items_from bt s others)
  fronts at bt r s more others h same = grind (arith, blind)

  past_same : (skip at bt : ℕ) (m : List ℕ) → got (items_past skip at m) ≡ got (items_past skip bt m)
  unfolding items_past
  past_same skip at bt [] = refl
  past_same (suc skip) at bt (b ∷ bs) = past_same skip (at + 1) (bt + 1) bs
  past_same zero at bt (b ∷ bs) = fronts at bt _ _ _ _ (front_same at bt (b ∷ bs)) (λ k. past_same k (at + 1) (bt + 1) bs)

  -- what is read without places is the same at each place
  pub same_at : (at bt : ℕ) (m : List ℕ) → flat_map f (found (items at m)) ≡ flat_map f (found (items bt m))
  same_at at bt m = past_same 0 at bt m

same_unplaced : (c : Content) → unplaced c ≡ unplaced (unplaced c)
same_unplaced c = grind arith

blind : (o : Occurrence) → (without_places o ∷ []) ≡ (without_places (without_places o) ∷ [])
blind o = ap (λ (c : Content). record { place = 0; number = o.number; content = c } ∷ []) (same_unplaced o.content)

pub moved : (at bt : ℕ) (m : List ℕ) → map without_places (found (items at m)) ≡ map without_places (found (items bt m))
moved at bt m = sym (flat_map_single without_places (found (items at m))) ∙ same_at (λ o. without_places o ∷ []) blind at bt m ∙ flat_map_single without_places (found (items bt m))

-- ---- the last occurrence of a field

last_bare : (k : ℕ) (os : List Occurrence) (o : Option Occurrence)
    → option_map without_places (last_or o (filter (λ x. x.number == k) os)) ≡ last_or (option_map without_places o) (filter (λ x. x.number == k) (map without_places os))
last_bare k [] o = refl
last_bare k (x ∷ os) o = grind (arith, last_bare k os)

-- without its places it is the same at each place
pub last_moved : (k at bt : ℕ) (m : List ℕ) → option_map without_places (last_of k (found (items at m))) ≡ option_map without_places (last_of k (found (items bt m)))
last_moved k at bt m =
    last_bare k (found (items at m)) None ∙ ap (λ (os : List Occurrence). last_or None (filter (λ x. x.number == k) os)) (moved at bt m) ∙ sym (last_bare k (found (items bt m)) None)

-- ---- wire faults

reason_same : (kind : Option Kind) (c : Content) → reason_in kind c ≡ reason_in kind (unplaced c)
reason_same kind c = grind arith

module _ (kinds : List (ℕ × Kind)) where
  wired_fronts : (at bt : ℕ) (r s : Result (Occurrence × ℕ) Reason) (more others : ℕ → List Item) → bare_front r ≡ bare_front s → ((k : ℕ) → wire kinds (more k) ≡ None → wire kinds (others k) ≡ None)
      → wire kinds (items_from at r more) ≡ None → wire kinds (items_from bt s others) ≡ None
  wired_fronts at bt r s more others h same none = grind (arith, reason_same)

  wired_past : (skip at bt : ℕ) (m : List ℕ) → wire kinds (items_past skip at m) ≡ None → wire kinds (items_past skip bt m) ≡ None
  unfolding items_past
  wired_past skip at bt [] none = refl
  wired_past (suc skip) at bt (b ∷ bs) none = wired_past skip (at + 1) (bt + 1) bs none
  wired_past zero at bt (b ∷ bs) none = wired_fronts at bt _ _ _ _ (front_same at bt (b ∷ bs)) (λ k. wired_past k (at + 1) (bt + 1) bs) none

  -- a message without a wire fault has none at any place
  pub wired_moved : (at bt : ℕ) (m : List ℕ) → wire kinds (items at m) ≡ None → wire kinds (items bt m) ≡ None
  wired_moved at bt m none = wired_past 0 at bt m none
