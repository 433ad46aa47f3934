-- What stored numbers mean.
use Rattle.std.specs.Prelude.{ℤ, pos, ◌+ℤ◌, ◌*ℤ◌, ◌≤ℤ◌}
use Rattle.osm_entity.specs.declared.scale.Scale.{Scale}

-- an offset and a number of units
abbrev pub nano : ℤ → ℤ → ℤ → ℤ
nano offset granularity stored = offset +ℤ (granularity *ℤ stored)

-- nanodegrees
abbrev pub nano_lat : Scale → ℤ → ℤ
nano_lat scale lat = nano scale.lat_offset scale.granularity lat

abbrev pub nano_lon : Scale → ℤ → ℤ
nano_lon scale lon = nano scale.lon_offset scale.granularity lon

-- milliseconds
abbrev pub millis : Scale → ℤ → ℤ
millis scale timestamp = scale.date_granularity *ℤ timestamp

-- both granularities are at least 1
pub record ScaleFits (scale : Scale) : Type 0 where
  pub places : pos 1 ≤ℤ scale.granularity
  pub dates : pos 1 ≤ℤ scale.date_granularity
