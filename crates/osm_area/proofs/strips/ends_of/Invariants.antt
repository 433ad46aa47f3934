use Rattle.std.proofs.Common.{ℤ, ◌≤ℤ◌, length}
use Rattle.osm_area.specs.Strips.{LieBetween}
use Rattle.osm_area.proofs.strips.ends_of.Given as goal

-- longitudes that the boxes so far and those that are left lie between are such for all boxes
abbrev pub invariant-boxes : goal.invariant-boxes
invariant-boxes l = (west east : ℤ) → west ≤ℤ l.west → l.east ≤ℤ east → LieBetween west east l.rest → LieBetween west east l.boxes

abbrev pub decreases-boxes : goal.decreases-boxes
decreases-boxes l = length l.rest
