-- Which boxes may have a place of a longitude, by strips of longitude.
use Rattle.std.specs.Prelude.{◌≡◌, ◌≤ℤ◌, ◌-ℤ◌, ℕ, ◌+◌, ◌/◌, ◌^◌, ℤ, Bool, true, ◌&&◌, nat_le, nat_abs, List, [], ◌∷◌, Option, Some, None, if◌then◌else◌}
use Rattle.std.specs.List.{AllByRecursion, slice_get}
use Rattle.std.specs.Global.{Vec}
use Rattle.osm_box.specs.declared.bounding_box.BoundingBox.{BoundingBox}
use Rattle.osm_box.specs.BoundingBox.{is_between}
use Rattle.osm_area.specs.declared.strips.AreaStrips.{AreaStrips}
use Rattle.osm_area.specs.declared.strip_span.StripSpan.{StripSpan}

-- ---- numbers

-- the numbers of those that pass a test, counted from this one
abbrev pub tested_numbers : {X : Type 0} → (X → Bool) → ℕ → List X → List ℕ
tested_numbers test number [] = []
tested_numbers test number (x ∷ xs) =
    if test x then number ∷ tested_numbers test (number + 1) xs else tested_numbers test (number + 1) xs

-- these are the numbers of some, counted from this one, each once and in rising order, and all that may be meant are among them
pub record Asks {X : Type 0} (may : X → Type 0) (number : ℕ) (xs : List X) (asked : List ℕ) : Type 0 where
  pub test : X → Bool
  pub numbers : asked ≡ tested_numbers test number xs
  pub all : AllByRecursion (λ x. may x → test x ≡ true) xs

-- a box has the longitude
abbrev pub HasLon : ℤ → BoundingBox → Type 0
HasLon lon b = is_between b.left b.right lon ≡ true

-- ---- strips

-- the strip that a longitude is in, counted from the west
abbrev pub lon_strip : StripSpan → ℤ → ℕ
lon_strip span lon = nat_abs (lon -ℤ span.west) / 2 ^ span.shift

-- a box has a longitude in the strip with this number
abbrev pub is_met : StripSpan → ℕ → BoundingBox → Bool
is_met span number b =
    nat_le (lon_strip span b.left) number && nat_le number (lon_strip span b.right)

-- the boxes lie between these longitudes
abbrev pub LieBetween : ℤ → ℤ → List BoundingBox → Type 0
LieBetween west east boxes = AllByRecursion (λ b. (west ≤ℤ b.left) × (b.right ≤ℤ east)) boxes

-- these are the strips from this number on
abbrev pub ListBoxes : StripSpan → ℕ → List BoundingBox → List (Vec ℕ) → Type 0
ListBoxes span number boxes [] = Unit {0}
ListBoxes span number boxes (strip ∷ more) =
    (strip.items ≡ tested_numbers (is_met span number) 0 boxes) × ListBoxes span (number + 1) boxes more

abbrev pub listed_in : Option (Vec ℕ) → List ℕ
listed_in None = []
listed_in (Some strip) = strip.items

-- the numbers of the strip that a longitude is in, if it is in any
unfoldable pub asked_at : AreaStrips → ℤ → List ℕ
asked_at strips lon =
    if is_between strips.span.west strips.span.east lon
    then listed_in (slice_get strips.strips.items (lon_strip strips.span lon)) else []

-- each box that has a longitude is among those that strips name for it
abbrev pub AskEnough : List BoundingBox → AreaStrips → Type 0
AskEnough boxes strips = (lon : ℤ) → Asks (HasLon lon) 0 boxes (asked_at strips lon)
