-- Where nodes are.
use Rattle.std.specs.Prelude.{◌≡◌, ℤ, List, [], ◌∷◌, ◌++◌, map}
use Rattle.pbf_wire.specs.Cursors.{sums_left}
use Rattle.osm_entity.specs.declared.scale.Scale.{Scale}
use Rattle.osm_entity.specs.Entity.{NodeSpec}
use Rattle.osm_entity.specs.Scale.{nano_lat, nano_lon}
use Rattle.pbf_dense.specs.declared.places.Place.{Place}
use Rattle.pbf_dense.specs.declared.places.Places.{Places}

-- the id of a node, and its place in nanodegrees
abbrev pub node_place : NodeSpec → Place
node_place n = record { id = n.id; lat = nano_lat n.scale n.lat; lon = nano_lon n.scale n.lon }

abbrev pub id_of : NodeSpec → ℤ
id_of n = n.id

-- these ids are those of the nodes in order, and then maybe more
abbrev pub BeginWithIds : List ℤ → List NodeSpec → Type 0
BeginWithIds ids ns = (more : List ℤ) × (ids ≡ map id_of ns ++ more)

-- the places, as long as there are an id, a latitude and a longitude
abbrev pub places_along : Scale → List ℤ → List ℤ → List ℤ → List Place
places_along scale (id ∷ ids) (lat ∷ lats) (lon ∷ lons) = record { id = id; lat = nano_lat scale lat; lon = nano_lon scale lon } ∷ places_along scale ids lats lons
places_along _ _ _ _ = []

-- the places that are still to come
unfoldable pub places_left : Places → List Place
places_left it = places_along it.scale (sums_left it.ids) (sums_left it.lats) (sums_left it.lons)
