use Rattle.std.proofs.Common.{◌≡◌, take}
use Rattle.osm_polygon.specs.Bands.{crosses_border, is_odd_of, is_last}
use Rattle.osm_polygon.proofs.bands.is_odd_here.Given as goal

-- the edges so far
abbrev pub invariant-loop-edge : goal.invariant-loop-edge
invariant-loop-edge l = l.is_odd ≡ is_odd_of (is_last l.shift l.cell (crosses_border l.border)) (take l.edge-index l.edges)
