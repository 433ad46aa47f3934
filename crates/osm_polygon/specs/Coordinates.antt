-- A place by its numbers, which may be wrong each.
use Rattle.std.specs.Prelude.{ℤ, ◌-ℤ◌, ◌-◌, Bool, false, ◌&&◌, nat_abs, nat_lt, List, length, Option, Some, None, Result, Ok, Err, if◌then◌else◌}
use Rattle.std.specs.List.{slice_get}
use Rattle.osm_polygon.specs.declared.fault.PolyReason.{PolyReason}
use Rattle.osm_polygon.specs.declared.fault.PolyReason.TheVariants.{Number, Range}
use Rattle.osm_polygon.specs.Earth.{magnitude_up_to}
use Rattle.osm_polygon.specs.Polygon.{Point}

-- a latitude or longitude in nanodegrees, at most `limit` from 0
abbrev pub coordinate : (limit : ℤ) → Option ℤ → Result ℤ PolyReason
coordinate limit None = Err Number
coordinate limit (Some n) = if magnitude_up_to limit n then Ok n else Err Range

-- an edge from one place to the other would be shorter round the other side of the earth. One of 360
-- degrees, along a whole parallel, has no other side
abbrev pub is_long : Point → Point → Bool
is_long from to =
    nat_lt 180000000000 (nat_abs (to.lon -ℤ from.lon))
    && nat_lt (nat_abs (to.lon -ℤ from.lon)) 360000000000

abbrev pub is_long_by : Option Point → Option Point → Bool
is_long_by (Some from) (Some to) = is_long from to
is_long_by _ _ = false

abbrev pub last_point : List Point → Option Point
last_point places = slice_get places (length places - 1)

-- the edge from the last place of a ring to one more
abbrev pub is_long_to : List Point → Point → Bool
is_long_to places to = is_long_by (last_point places) (Some to)

-- the edge from the last place of a ring to its first
abbrev pub is_long_back : List Point → Bool
is_long_back places = is_long_by (last_point places) (slice_get places 0)

-- the place, or what is wrong with its first wrong number
abbrev pub place_at : {E : Type 0} → (lon lat : Result ℤ E) → Result Point E
place_at (Err wrong) lat = Err wrong
place_at (Ok lon) (Err wrong) = Err wrong
place_at (Ok lon) (Ok lat) = Ok (record { lat = lat; lon = lon })
