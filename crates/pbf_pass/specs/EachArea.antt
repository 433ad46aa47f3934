-- The first phases of several areas, of which only those take a place that it may lie in.
use Rattle.std.specs.Prelude.{◌≡◌, ◌≤◌, ◌+◌, ℕ, ℤ, Bool, true, false, ⊤, List, [], ◌∷◌, Option, Some, None, length, map}
use Rattle.std.specs.List.{AllByRecursion, AllZip}
use Rattle.osm_area.specs.Area.{AreaSpec, IsAreaWithin, box_area}
use Rattle.osm_area.specs.Strips.{Asks, asked_at}
use Rattle.osm_area.specs.declared.strips.AreaStrips.{AreaStrips}
use Rattle.osm_box.specs.declared.bounding_box.BoundingBox.{BoundingBox}
use Rattle.osm_ids.specs.Strips.{Marks, NamesAll, NamesAny}
use Rattle.osm_ids.specs.declared.strips.IdStrips.{IdStrips}
use Rattle.osm_ways.specs.declared.in_area.InArea.{InArea}
use Rattle.osm_ways.specs.InArea.{stepped}
use Rattle.osm_ways.specs.Phases.{Ids, LeavesOutWays, PassesOver}
use Rattle.osm_ways.specs.Selection.{Seen, a_node}
use Rattle.pbf_dense.specs.declared.places.Place.{Place}
use Rattle.pbf_pass.specs.declared.way_strips.WayStrips.{WayStrips}
use Rattle.pbf_pass.specs.declared.way_strips.WayStrips.TheVariants.{Made, Never, Unmade}

-- the areas of phases
abbrev pub member_areas : {A S : Type 0} → (A → AreaSpec) → List (InArea A S) → List AreaSpec
member_areas area members = map (λ of. area of.area) members

-- ---- which areas are asked

-- an area has a place of this longitude
abbrev pub HasPlace : ℤ → AreaSpec → Type 0
HasPlace lon area = (lat : ℤ) × (area.has lat lon ≡ true)

-- these are the numbers of areas, and all that have a place of this longitude are among them
abbrev pub AreEnough : ℤ → (number : ℕ) → List AreaSpec → List ℕ → Type 0
AreEnough lon number areas asked = Asks (HasPlace lon) number areas asked

-- whatever the longitude, strips name such areas, if there are strips
abbrev pub StripsSuffice : List AreaSpec → Option AreaStrips → Type 0
StripsSuffice areas None = ⊤
StripsSuffice areas (Some strips) = (lon : ℤ) → AreEnough lon 0 areas (asked_at strips lon)

-- each place of the area lies in the box that a header names for it
abbrev pub IsBounded : AreaSpec → Type 0
IsBounded area = IsAreaWithin area (box_area area.bounds)

-- ---- what a phase takes

-- a node, by its place
abbrev pub node_placed : {A S : Type 0} → (A → AreaSpec) → (S → Seen → S) → InArea A S → Place → InArea A S
node_placed area step of p = stepped step of (a_node p.id ((area of.area).has p.lat p.lon))

-- a node was taken, so that one that lies outside changes nothing
pub record IsReady {A S : Type 0} (step : S → Seen → S) (of : InArea A S) : Type 0 where
  pub alike : PassesOver step
  pub same : (id : ℤ) → step of.phase (a_node id false) ≡ of.phase

-- ---- which phases take a way

-- the ids of the nodes that lie in the areas
abbrev pub member_ids : {A S : Type 0} → (S → Ids) → List (InArea A S) → List Ids
member_ids inside members = map (λ of. inside of.phase) members

-- strips name these sets, whose numbers count from this one, for each of their ids
abbrev pub NamesEachSet : IdStrips → (number : ℕ) → List Ids → Type 0
NamesEachSet strips number [] = ⊤
NamesEachSet strips number (ids ∷ others) = NamesAll strips number ids × NamesEachSet strips (number + 1) others

-- a way without a ref to a node in its area changes nothing
abbrev pub SkipsWays : {A S : Type 0} → (S → Seen → S) → (S → Ids) → InArea A S → Type 0
SkipsWays step inside of = LeavesOutWays step inside of.phase

-- if strips are made, they name all phases to which a way may matter, and each phase has a mark
abbrev pub StripsFindAll : {A S : Type 0} → (S → Seen → S) → (S → Ids) → List (InArea A S) → WayStrips → Type 0
StripsFindAll step inside members (Made made) = AllByRecursion (SkipsWays step inside) members × NamesEachSet made.strips 0 (member_ids inside members) × (length made.marks.items ≡ length members)
StripsFindAll step inside members _ = ⊤

-- no strips are made
abbrev pub IsUnmade : WayStrips → Type 0
IsUnmade (Made made) = ⊥
IsUnmade _ = ⊤

-- the sets that are named for one of the refs were marked, if strips are made
abbrev pub MarksWay : List ℤ → (old new : WayStrips) → Type 0
MarksWay refs (Made old) (Made new) = (new.strips ≡ old.strips) × Marks (NamesAny old.strips refs) old.marks.items new.marks.items
MarksWay refs old new = new ≡ old

-- strips are made, and name no set for these refs
abbrev pub FindsNobody : List ℤ → WayStrips → Type 0
FindsNobody refs (Made made) = (number : ℕ) → NamesAny made.strips refs number → ⊥
FindsNobody refs _ = ⊥

-- a phase without a mark needn't take the way: that changes nothing, and neither does a later one without a ref to a node in its area
abbrev pub CanSkip : {A S : Type 0} → (S → Seen → S) → (S → Ids) → Seen → InArea A S → (mark : Bool) → Type 0
CanSkip step inside seen of mark = mark ≡ false → (step of.phase seen ≡ of.phase) × SkipsWays step inside of

-- of all phases, if strips are made
abbrev pub CanSkipEach : {A S : Type 0} → (S → Seen → S) → (S → Ids) → Seen → List (InArea A S) → WayStrips → Type 0
CanSkipEach step inside seen members (Made made) = AllZip (CanSkip step inside seen) members made.marks.items × NamesEachSet made.strips 0 (member_ids inside members)
CanSkipEach step inside seen members _ = ⊤
