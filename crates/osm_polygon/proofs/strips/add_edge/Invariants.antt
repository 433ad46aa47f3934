use Rattle.std.proofs.Common.{◌≡◌, ◌+◌, ◌≤◌}
use Rattle.std.specs.Prelude.{max}
use Rattle.osm_polygon.specs.Strips.{edges_held, lists_of, with_edge}
use Rattle.osm_polygon.proofs.StripLemmas.{in_strip_below}
use Rattle.osm_polygon.proofs.strips.add_edge.Given as goal

-- the edge is in its strips below this number
abbrev pub invariant-loop-number : goal.invariant-loop-number
invariant-loop-number l = record {
  with : lists_of l.strips.items ≡ with_edge (in_strip_below l.cut.axis l.cut.shift l.edge l.number) l.edge l.cut.first (lists_of l.fn.strips.items);
  few : edges_held l.strips.items + l.from ≤ edges_held l.fn.strips.items + l.number;
  begun : l.from ≤ l.number;
  ends : l.number ≤ max l.from l.end;
}
