-- Several areas in one pass, of which only some take a place.
use Rattle.std.proofs.Common.{◌≡◌, ◌∙◌, ℕ, zero, suc, ◌+◌, ◌-◌, ◌^◌, ◌<◌, ◌≤◌, ℤ, Bool, true, false, true≢false, List, [], ◌∷◌, ◌++◌, length, take, drop, map, Option, Some, None, refl, sym, ap, ap₂, subst, arith, rules, take-append-drop}
use Rattle.std.specs.Prelude.{if◌then◌else◌, is_none, pos}
use Rattle.std.specs.Iterator.{YieldsFirst}
use Rattle.std.specs.List.{AllByRecursion, fold}
use Rattle.std.proofs.lemmas.Bool.{and_parts}
use Rattle.std.proofs.lemmas.List.{map-append, map-id}
use Rattle.osm_area.specs.Area.{AreaSpec}
use Rattle.osm_area.specs.Strips.{Asks, HasLon, asked_at, tested_numbers}
use Rattle.osm_area.specs.Strips as strips
use Rattle.osm_area.specs.declared.strips.AreaStrips.{AreaStrips}
use Rattle.osm_box.specs.declared.bounding_box.BoundingBox.{BoundingBox}
use Rattle.osm_box.specs.BoundingBox.{is_between, is_inside}
use Rattle.osm_entity.specs.Entity.{EntitySpec, NodeSpec, node}
use Rattle.osm_ways.specs.declared.in_area.InArea.{InArea}
use Rattle.osm_ways.specs.InArea.{stepped}
use Rattle.osm_ways.specs.Phases.{PassesOver}
use Rattle.osm_ways.specs.Selection.{Seen, a_node}
use Rattle.pbf_dense.specs.declared.places.Place.{Place}
use Rattle.pbf_dense.specs.Places.{node_place, places_left}
use Rattle.pbf_dense.specs.declared.places.Places.{Places}
use Rattle.pbf_pass.specs.EachArea.{AreEnough, HasPlace, IsBounded, IsReady, StripsSuffice, member_areas, node_placed}
use Rattle.pbf_pass.specs.Pass.{with_seen_in}

-- ---- lists

nothing_more : {X : Type 0} (x : X) (xs : List X) → ◌≡◌ {A = List X} [] (x ∷ xs) → ⊥
nothing_more x xs e = search rules

heads : {X : Type 0} {x y : X} {xs ys : List X} → ◌≡◌ {A = List X} (x ∷ xs) (y ∷ ys) → x ≡ y
heads e = cc

tails : {X : Type 0} {x y : X} {xs ys : List X} → ◌≡◌ {A = List X} (x ∷ xs) (y ∷ ys) → xs ≡ ys
tails e = cc

pub empty_is : {X : Type 0} (xs : List X) → length xs ≡ 0 → xs ≡ []
empty_is [] e = refl
empty_is (x ∷ xs) e = absurd (omega (arith, e))

all_taken : {X : Type 0} (P : X → Type 0) (xs : List X) (k : ℕ) → AllByRecursion P xs → AllByRecursion P (take k xs)
all_taken P [] zero all = tt
all_taken P [] (suc k) all = tt
all_taken P (x ∷ xs) zero all = tt
all_taken P (x ∷ xs) (suc k) all = (all.0, all_taken P xs k all.1)

all_dropped : {X : Type 0} (P : X → Type 0) (xs : List X) (k : ℕ) → AllByRecursion P xs → AllByRecursion P (drop k xs)
all_dropped P [] zero all = tt
all_dropped P [] (suc k) all = tt
all_dropped P (x ∷ xs) zero all = all
all_dropped P (x ∷ xs) (suc k) all = all_dropped P xs k all.1

map_twice : {X Y Z : Type 0} (f : X → Y) (g : Y → Z) (xs : List X) → map g (map f xs) ≡ map (λ (x : X). g (f x)) xs
map_twice f g [] = refl
map_twice f g (x ∷ xs) = ap (λ rest. g (f x) ∷ rest) (map_twice f g xs)

not_dropped : {X : Type 0} (xs : List X) (k : ℕ) → k < length xs → drop k xs ≡ [] → ⊥
not_dropped [] k within e = omega (arith, within)
not_dropped (x ∷ xs) zero within e = nothing_more x xs (sym e)
not_dropped (x ∷ xs) (suc k) within e = not_dropped xs k (omega (arith, within)) e

drop_next : {X : Type 0} (xs : List X) (k : ℕ) (y : X) (ys : List X) → drop k xs ≡ y ∷ ys → drop (suc k) xs ≡ ys
drop_next [] zero y ys e = absurd (nothing_more y ys e)
drop_next [] (suc k) y ys e = absurd (nothing_more y ys e)
drop_next (x ∷ xs) zero y ys e = tails e
drop_next (x ∷ xs) (suc k) y ys e = drop_next xs k y ys e

dropped_length : {X : Type 0} (xs : List X) (k : ℕ) (y : X) (ys : List X) → drop k xs ≡ y ∷ ys → length xs ≡ k + 1 + length ys
dropped_length [] zero y ys e = absurd (nothing_more y ys e)
dropped_length [] (suc k) y ys e = absurd (nothing_more y ys e)
dropped_length (x ∷ xs) zero y ys e =
    let same = ap length e in
    omega (arith, same)
dropped_length (x ∷ xs) (suc k) y ys e = omega (arith, dropped_length xs k y ys e)

-- ---- numbers

numbers_mapped : {X Y : Type 0} (test : Y → Bool) (f : X → Y) (number : ℕ) (xs : List X) → tested_numbers test number (map f xs) ≡ tested_numbers (λ (x : X). test (f x)) number xs
numbers_mapped test f number [] = refl
numbers_mapped test f number (x ∷ xs) = ap (λ (l : List ℕ). if test (f x) then number ∷ l else l) (numbers_mapped test f (number + 1) xs)

-- the first number, and those before it
record Next {X : Type 0} (test : X → Bool) (first : ℕ) (xs : List X) (n : ℕ) (later : List ℕ) : Type 0 where
  past : ℕ
  is : n ≡ first + past
  within : past < length xs
  none : AllByRecursion (λ x. test x ≡ false) (take past xs)
  more : later ≡ tested_numbers test (n + 1) (drop (suc past) xs)

next_of : {X : Type 0} (test : X → Bool) (xs : List X) (first n : ℕ) (later : List ℕ) → n ∷ later ≡ tested_numbers test first xs → Next test first xs n later
next_of test [] first n later e = absurd (nothing_more n later (sym e))
next_of {X} test (x ∷ xs) first n later e = by (test x) refl (next_of test xs (first + 1) n later) where
  numbers : Bool → List ℕ
  numbers b = if b then first ∷ tested_numbers test (first + 1) xs else tested_numbers test (first + 1) xs

  by : (b : Bool) → test x ≡ b → (n ∷ later ≡ tested_numbers test (first + 1) xs → Next test (first + 1) xs n later) → Next test first (x ∷ xs) n later
  by true is rest =
      let here : ◌≡◌ {A = List ℕ} (n ∷ later) (first ∷ tested_numbers test (first + 1) xs) = e ∙ ap numbers is in
      let same : n ≡ first = heads here in
      record { past = 0; is = omega (arith, same); within = omega arith; none = tt; more = tails here ∙ ap (λ (k : ℕ). tested_numbers test (k + 1) xs) (sym same) }
  by false is rest =
      let there = rest (e ∙ ap numbers is) in
      record { past = suc there.past; is = omega (arith, there.is); within = omega (arith, there.within); none = (is, there.none); more = there.more }

none_of : {X : Type 0} (test : X → Bool) (number : ℕ) (xs : List X) → [] ≡ tested_numbers test number xs → AllByRecursion (λ x. test x ≡ false) xs
none_of test number [] e = tt
none_of {X} test number (x ∷ xs) e = by (test x) refl (none_of test (number + 1) xs) where
  numbers : Bool → List ℕ
  numbers b = if b then number ∷ tested_numbers test (number + 1) xs else tested_numbers test (number + 1) xs

  by : (b : Bool) → test x ≡ b → ([] ≡ tested_numbers test (number + 1) xs → AllByRecursion (λ x. test x ≡ false) xs) → AllByRecursion (λ x. test x ≡ false) (x ∷ xs)
  by true is rest = absurd (nothing_more number (tested_numbers test (number + 1) xs) (e ∙ ap numbers is))
  by false is rest = (is, rest (e ∙ ap numbers is))

-- ---- strips of boxes are strips of areas

module _ (lon : ℤ) (test : BoundingBox → Bool) where
  has_lon : (area : AreaSpec) → IsBounded area → HasPlace lon area → HasLon lon area.bounds
  has_lon area bounded has = (and_parts _ _ (bounded has.0 lon has.1)).1

  all_areas : (areas : List AreaSpec) → AllByRecursion IsBounded areas → AllByRecursion (λ b. HasLon lon b → test b ≡ true) (map (λ area. area.bounds) areas)
      → AllByRecursion (λ area. HasPlace lon area → test area.bounds ≡ true) areas
  all_areas [] bounded all = tt
  all_areas (a ∷ areas) bounded all = ((λ has. all.0 (has_lon a bounded.0 has)), all_areas areas bounded.1 all.1)

pub asks_areas : (areas : List AreaSpec) (made : AreaStrips) (boxes : List BoundingBox) → boxes ≡ map (λ area. area.bounds) areas → AllByRecursion IsBounded areas → strips.AskEnough boxes made → StripsSuffice areas (Some made)
asks_areas areas made boxes are bounded asks lon =
    let one = subst (λ (l : List BoundingBox). Asks (HasLon lon) 0 l (asked_at made lon)) are (asks lon) in
    record {
      test = λ area. one.test area.bounds;
      numbers = one.numbers ∙ numbers_mapped one.test (λ (area : AreaSpec). area.bounds) 0 areas;
      all = all_areas lon one.test areas bounded one.all;
    }

module _ {A S : Type 0} (area : A → AreaSpec) (step : S → Seen → S) where
  -- ---- areas stay

  areas_stay : (f : InArea A S → InArea A S) → ((of : InArea A S) → (f of).area ≡ of.area) → (ms : List (InArea A S)) → member_areas area (map f ms) ≡ member_areas area ms
  areas_stay f same [] = refl
  areas_stay f same (m ∷ ms) = ap (λ (a : A). area a ∷ member_areas area (map f ms)) (same m) ∙ ap (λ (l : List AreaSpec). area m.area ∷ l) (areas_stay f same ms)

  area_folded : (es : List EntitySpec) (of : InArea A S) → (fold (with_seen_in area step) of es).area ≡ of.area
  area_folded [] of = refl
  area_folded (e ∷ es) of = area_folded es (with_seen_in area step of e)

  may_still : (olds news : List (InArea A S)) (before now : Option AreaStrips) → member_areas area news ≡ member_areas area olds → now ≡ before → StripsSuffice (member_areas area olds) before → StripsSuffice (member_areas area news) now
  may_still olds news before now areas same asks = subst (λ (l : List AreaSpec). StripsSuffice l now) (sym areas) (subst (λ (s : Option AreaStrips). StripsSuffice (member_areas area olds) s) (sym same) asks)

  pub still_one : (e : EntitySpec) (olds news : List (InArea A S)) (before now : Option AreaStrips) → news ≡ map (λ of. with_seen_in area step of e) olds → now ≡ before → StripsSuffice (member_areas area olds) before → StripsSuffice (member_areas area news) now
  still_one e olds news before now is = may_still olds news before now (ap (member_areas area) is ∙ areas_stay (λ of. with_seen_in area step of e) (λ of. refl) olds)

  pub still_all : (es : List EntitySpec) (olds news : List (InArea A S)) (before now : Option AreaStrips) → news ≡ map (λ of. fold (with_seen_in area step) of es) olds → now ≡ before → StripsSuffice (member_areas area olds) before → StripsSuffice (member_areas area news) now
  still_all es olds news before now is = may_still olds news before now (ap (member_areas area) is ∙ areas_stay (λ of. fold (with_seen_in area step) of es) (area_folded es) olds)

  -- ---- a node outside, and then any

  pub ready_outside : (alike : PassesOver step) (old new : InArea A S) → ((id : ℤ) → new.phase ≡ step old.phase (a_node id false)) → IsReady step new
  ready_outside alike old new is = record { alike = alike; same = λ id. ap (λ (s : S). step s (a_node id false)) (is id) ∙ alike.after old.phase id id false ∙ sym (is id) }

  ready_after : (of : InArea A S) (p : Place) → IsReady step of → IsReady step (node_placed area step of p)
  ready_after of p ready = record { alike = ready.alike; same = λ id. ready.alike.after of.phase p.id id ((area of.area).has p.lat p.lon) }

  pub all_ready : (p : Place) (ms : List (InArea A S)) → AllByRecursion (IsReady step) ms → AllByRecursion (IsReady step) (map (λ of. node_placed area step of p) ms)
  all_ready p [] ready = tt
  all_ready p (m ∷ ms) ready = (ready_after m p ready.0, all_ready p ms ready.1)

  pub areas_placed : (p : Place) (ms : List (InArea A S)) → member_areas area (map (λ of. node_placed area step of p) ms) ≡ member_areas area ms
  areas_placed p ms = areas_stay (λ of. node_placed area step of p) (λ of. refl) ms

  -- ---- who is asked

  -- an area that isn't asked
  unasked : (p : Place) (of : InArea A S) (asked : Bool) → IsReady step of → (HasPlace p.lon (area of.area) → asked ≡ true) → asked ≡ false → node_placed area step of p ≡ of
  unasked p of asked ready may none = by ((area of.area).has p.lat p.lon) refl where
    by : (b : Bool) → (area of.area).has p.lat p.lon ≡ b → node_placed area step of p ≡ of
    by true is = absurd (true≢false (sym (may (p.lat, is)) ∙ none))
    by false is = ap (λ (b : Bool). stepped step of (a_node p.id b)) is ∙ ap (λ (s : S). record of { phase = s }) (ready.same p.id)

  module _ (p : Place) (test : AreaSpec → Bool) where
    abbrev Meant : InArea A S → Type 0
    Meant of = HasPlace p.lon (area of.area) → test (area of.area) ≡ true

    abbrev IsLeft : InArea A S → Type 0
    IsLeft of = test (area of.area) ≡ false

    all_unasked : (ms : List (InArea A S)) → AllByRecursion (IsReady step) ms → AllByRecursion Meant ms → AllByRecursion IsLeft ms → map (λ of. node_placed area step of p) ms ≡ ms
    all_unasked [] ready may none = refl
    all_unasked (m ∷ ms) ready may none = ap₂ (λ (x : InArea A S) (l : List (InArea A S)). x ∷ l) (unasked p m (test (area m.area)) ready.0 may.0 none.0) (all_unasked ms ready.1 may.1 none.1)

    meant : (ms : List (InArea A S)) → AllByRecursion (λ a. HasPlace p.lon a → test a ≡ true) (member_areas area ms) → AllByRecursion Meant ms
    meant [] all = tt
    meant (m ∷ ms) all = (all.0, meant ms all.1)

    meant_of : (ms : List (InArea A S)) → AllByRecursion Meant ms → AllByRecursion (λ a. HasPlace p.lon a → test a ≡ true) (member_areas area ms)
    meant_of [] all = tt
    meant_of (m ∷ ms) all = (all.0, meant_of ms all.1)

  -- if none is asked
  pub nobody : (p : Place) (first : ℕ) (ms : List (InArea A S)) (numbers : List ℕ) → numbers ≡ [] → AllByRecursion (IsReady step) ms → AreEnough p.lon first (member_areas area ms) numbers → ms ≡ map (λ of. node_placed area step of p) ms
  nobody p first ms numbers empty ready asks =
      let none = none_of (λ (of : InArea A S). asks.test (area of.area)) first ms (sym empty ∙ asks.numbers ∙ numbers_mapped asks.test (λ (of : InArea A S). area of.area) first ms) in
      sym (all_unasked p asks.test ms ready (meant p asks.test ms asks.all) none)

  -- the first that is asked, and those after it
  pub record Asked (p : Place) (first : ℕ) (ms : List (InArea A S)) (n : ℕ) (later : List ℕ) : Type 0 where
    pub past : ℕ
    pub is : n ≡ first + past
    pub within : past < length ms
    pub same : map (λ of. node_placed area step of p) (take past ms) ≡ take past ms
    pub ready : AllByRecursion (IsReady step) (drop (suc past) ms)
    pub more : AreEnough p.lon (n + 1) (member_areas area (drop (suc past) ms)) later

  pub somebody : (p : Place) (first : ℕ) (ms : List (InArea A S)) (n : ℕ) (later : List ℕ) → AllByRecursion (IsReady step) ms → AreEnough p.lon first (member_areas area ms) (n ∷ later) → Asked p first ms n later
  somebody p first ms n later ready asks =
      let test = λ (of : InArea A S). asks.test (area of.area) in
      let next = next_of test ms first n later (asks.numbers ∙ numbers_mapped asks.test (λ (of : InArea A S). area of.area) first ms) in
      let all = meant p asks.test ms asks.all in
      let rest = drop (suc next.past) ms in
      record {
        past = next.past;
        is = next.is;
        within = next.within;
        same = all_unasked p asks.test (take next.past ms) (all_taken (IsReady step) ms next.past ready) (all_taken (Meant p asks.test) ms next.past all) next.none;
        ready = all_dropped (IsReady step) ms (suc next.past) ready;
        more = record {
          test = asks.test;
          numbers = next.more ∙ sym (numbers_mapped asks.test (λ (of : InArea A S). area of.area) (n + 1) rest);
          all = meant_of p asks.test rest (all_dropped (Meant p asks.test) ms (suc next.past) all);
        };
      }

  -- what holds of the rest, and what comes of all
  module _ (p : Place) (first : ℕ) (ms : List (InArea A S)) (n : ℕ) (later numbers : List ℕ) (is : numbers ≡ n ∷ later) (ready : AllByRecursion (IsReady step) ms) (asks : AreEnough p.lon first (member_areas area ms) numbers) where
    one : Asked p first ms n later
    one = somebody p first ms n later ready (subst (λ (l : List ℕ). AreEnough p.lon first (member_areas area ms) l) is asks)

    past_is : n - first ≡ one.past
    past_is = omega (arith, one.is)

    pub asked_from : first ≤ n
    asked_from = omega (arith, one.is)

    pub asked_within : n - first ≤ length ms
    asked_within = omega (arith, past_is, one.within)

    module _ (back : List (InArea A S)) (there : back ≡ drop (n - first) ms) where
      back_is : back ≡ drop one.past ms
      back_is = there ∙ ap (λ k. drop k ms) past_is

      pub asked_there : back ≡ [] → ⊥
      asked_there none = not_dropped ms one.past one.within (sym back_is ∙ none)

      module _ (m : InArea A S) (after : List (InArea A S)) (found : back ≡ m ∷ after) where
        after_is : drop (suc one.past) ms ≡ after
        after_is = drop_next ms one.past m after (sym back_is ∙ found)

        counted : n + 1 + length after ≡ first + length ms
        counted = omega (arith, one.is, dropped_length ms one.past m after (sym back_is ∙ found))

        pub asked_few : first + length ms < 2 ^ 64 → n + 1 + length after < 2 ^ 64
        asked_few few = omega (arith, few, counted)

        pub asked_ready : AllByRecursion (IsReady step) after
        asked_ready = subst (AllByRecursion (IsReady step)) after_is one.ready

        pub asked_more : AreEnough p.lon (n + 1) (member_areas area after) later
        asked_more = subst (λ (l : List (InArea A S)). AreEnough p.lon (n + 1) (member_areas area l) later) after_is one.more

        pub asked_all : (front : List (InArea A S)) (m' : InArea A S) (after' : List (InArea A S)) → front ≡ take (n - first) ms → m' ≡ node_placed area step m p → after' ≡ map (λ of. node_placed area step of p) after
            → front ++ m' ∷ after' ≡ map (λ of. node_placed area step of p) ms
        asked_all front m' after' before here rest =
            let w = λ (of : InArea A S). node_placed area step of p in
            let whole : take one.past ms ++ m ∷ after ≡ ms = ap (λ (l : List (InArea A S)). take one.past ms ++ l) (sym found ∙ back_is) ∙ take-append-drop one.past ms in
            ap₂ (λ (l k : List (InArea A S)). l ++ k) (before ∙ ap (λ k. take k ms) past_is ∙ sym one.same) (ap₂ (λ (x : InArea A S) (l : List (InArea A S)). x ∷ l) here rest)
            ∙ sym (map-append w (take one.past ms) (m ∷ after))
            ∙ ap (map w) whole

  -- ---- all nodes of a message

  pub placed : (ns : List NodeSpec) (of : InArea A S) → fold (node_placed area step) of (map node_place ns) ≡ fold (with_seen_in area step) of (map node ns)
  placed [] of = refl
  placed (n ∷ ns) of = placed ns (node_placed area step of (node_place n))

  pub placed_each : (ns : List NodeSpec) (ms : List (InArea A S)) → map (λ of. fold (node_placed area step) of (map node_place ns)) ms ≡ map (λ of. fold (with_seen_in area step) of (map node ns)) ms
  placed_each ns [] = refl
  placed_each ns (m ∷ ms) = ap₂ (λ (x : InArea A S) (l : List (InArea A S)). x ∷ l) (placed ns m) (placed_each ns ms)

  pub place_more : (p : Place) (ps : List Place) (ms : List (InArea A S)) → map (λ of. fold (node_placed area step) of ps) (map (λ of. node_placed area step of p) ms) ≡ map (λ of. fold (node_placed area step) of (p ∷ ps)) ms
  place_more p ps ms = map_twice (λ (of : InArea A S). node_placed area step of p) (λ (of : InArea A S). fold (node_placed area step) of ps) ms

  outside_first : PassesOver step → (n : NodeSpec) (ns : List NodeSpec) (of : InArea A S)
      → fold (with_seen_in area step) (stepped step of (a_node n.id false)) (map node (n ∷ ns)) ≡ fold (with_seen_in area step) of (map node (n ∷ ns))
  outside_first alike n ns of =
      let p = node_place n in
      ap (λ (s : S). fold (with_seen_in area step) (record of { phase = s }) (map node ns)) (alike.before of.phase n.id n.id ((area of.area).has p.lat p.lon))

  pub outside_each : (n : NodeSpec) (ns : List NodeSpec) (ms : List (InArea A S)) → AllByRecursion (IsReady step) (map (λ of. stepped step of (a_node n.id false)) ms)
      → map (λ of. fold (with_seen_in area step) of (map node (n ∷ ns))) (map (λ of. stepped step of (a_node n.id false)) ms) ≡ map (λ of. fold (with_seen_in area step) of (map node (n ∷ ns))) ms
  outside_each n ns [] ready = refl
  outside_each n ns (m ∷ ms) ready = ap₂ (λ (x : InArea A S) (l : List (InArea A S)). x ∷ l) (outside_first ready.0.alike n ns m) (outside_each n ns ms ready.1)

  pub areas_outside : (begun ms : List (InArea A S)) → ((id : ℤ) → begun ≡ map (λ of. stepped step of (a_node id false)) ms) → member_areas area begun ≡ member_areas area ms
  areas_outside begun ms is = ap (member_areas area) (is (pos 0)) ∙ areas_stay (λ of. stepped step of (a_node (pos 0) false)) (λ of. refl) ms

  module _ (it more : Places) (first : Option Place) (steps : YieldsFirst places_left it first more) where
    -- if there is no first place
    pub nothing_taken : (ns : List NodeSpec) (ms : List (InArea A S)) → is_none first ≡ true → places_left it ≡ map node_place ns → ms ≡ map (λ of. fold (with_seen_in area step) of (map node ns)) ms
    nothing_taken ns ms none are = by first ns steps none are where
      by : (f : Option Place) (ns : List NodeSpec) → YieldsFirst places_left it f more → is_none f ≡ true → places_left it ≡ map node_place ns → ms ≡ map (λ of. fold (with_seen_in area step) of (map node ns)) ms
      by None [] steps none are = sym (map-id ms)
      by None (n ∷ ns) steps none are = absurd (nothing_more _ _ (sym steps.0 ∙ are))
      by (Some place) ns steps none are = absurd (true≢false (sym none))

    -- if there is one
    pub some_taken : (ns : List NodeSpec) (ms begun now : List (InArea A S)) → is_none first ≡ false → places_left it ≡ map node_place ns → ((id : ℤ) → begun ≡ map (λ of. stepped step of (a_node id false)) ms) → AllByRecursion (IsReady step) begun
        → now ≡ map (λ of. fold (with_seen_in area step) of (map node ns)) begun → now ≡ map (λ of. fold (with_seen_in area step) of (map node ns)) ms
    some_taken ns ms begun now some are is ready taken = by first ns steps some are taken where
      by : (f : Option Place) (ns : List NodeSpec) → YieldsFirst places_left it f more → is_none f ≡ false → places_left it ≡ map node_place ns → now ≡ map (λ of. fold (with_seen_in area step) of (map node ns)) begun → now ≡ map (λ of. fold (with_seen_in area step) of (map node ns)) ms
      by None ns steps some are taken = absurd (true≢false some)
      by (Some place) [] steps some are taken = absurd (nothing_more _ _ (sym are ∙ steps))
      by (Some place) (n ∷ ns) steps some are taken =
          taken
          ∙ ap (map (λ (of : InArea A S). fold (with_seen_in area step) of (map node (n ∷ ns)))) (is n.id)
          ∙ outside_each n ns ms (subst (AllByRecursion (IsReady step)) (is n.id) ready)
