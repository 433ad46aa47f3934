use Rattle.std.proofs.Common.{◌≡◌, ◌-◌, length, take, ◌≤◌}
use Rattle.osm_polygon.specs.Strips.{AreStrips, edges_held, lists_of, spans_of}
use Rattle.osm_polygon.proofs.strips.strips_of.Given as goal

-- the strips have the edges so far
abbrev pub invariant-loop-edge : goal.invariant-loop-edge
invariant-loop-edge l = record {
  are : AreStrips l.cut.axis l.cut.shift l.cut.first (take l.edge-index l.edges) (lists_of l.strips.items);
  number : length l.strips.items ≡ l.cut.end - l.cut.first;
  few : edges_held l.strips.items ≤ spans_of l.cut (take l.edge-index l.edges);
}
