-- Of the list that the sets were gathered from they take what they choose: a way that they choose has its id in them.
use Rattle.std.proofs.Common.{arith, ◌≡◌, Bool, true, List, [], ◌∷◌, map, refl, sym, ◌∙◌}
use Rattle.std.specs.List.{list_any, filter}
use Rattle.std.proofs.lemmas.Bool.{or_left, or_right}
use Rattle.osm_ways.specs.Selection.{Seen}
use Rattle.osm_ways.specs.Phases.{KeptSets, way_pass, is_chosen, is_taken}
use Rattle.osm_ways.proofs.Passes.{box_ids-after, way_ids-after}
use Rattle.osm_ways.proofs.Shown.{list_any-map}

-- an element of a list: each test that it passes finds something there
abbrev IsAmong : {X : Type 0} → List X → X → Type 0
IsAmong {X} xs x = (test : X → Bool) → test x ≡ true → list_any test xs ≡ true

-- two tests that agree on the elements of a list
filter_among : {X : Type 0} (p q : X → Bool) (xs : List X) → ((x : X) → IsAmong xs x → p x ≡ q x) → filter p xs ≡ filter q xs
filter_among p q [] h = refl
filter_among p q (x ∷ xs) h = grind (arith, h x (λ test is. or_left (test x) (list_any test xs) is), or_left, filter_among p q xs (λ y among. h y (λ test is. or_right (test x) (list_any test xs) (among test is))), or_right)

taken_among : (seen : List Seen) (sets : KeptSets) → sets.ways ≡ way_pass seen → (e : Seen) → IsAmong seen e → is_taken sets e ≡ is_chosen sets e
taken_among seen sets ways e among = grind (arith, ways, box_ids-after, way_ids-after, among)

pub taken_are_chosen : {X : Type 0} (look : X → Seen) (sets : KeptSets) (xs : List X) → sets.ways ≡ way_pass (map look xs)
    → filter (λ x. is_taken sets (look x)) xs ≡ filter (λ x. is_chosen sets (look x)) xs
taken_are_chosen look sets xs ways =
    filter_among _ _ xs
    (λ x among. taken_among (map look xs) sets ways (look x) (λ test is. sym (list_any-map test look xs) ∙ among (λ y. test (look y)) is))
