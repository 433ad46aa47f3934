use Rattle.std.proofs.Common.{◌≡◌, ◌+◌, take}
use Rattle.osm_polygon.specs.Strips.{spans_of}
use Rattle.osm_polygon.proofs.strips.are_few.Given as goal

-- what is left, and what the edges so far took
abbrev pub invariant-loop-edge : goal.invariant-loop-edge
invariant-loop-edge l = spans_of l.cut (take l.edge-index l.edges) + l.left ≡ l.most
