use Rattle.std.proofs.Common.{◌≡◌, ◌+◌, ◌≤◌, length, []}
use Rattle.std.specs.Prelude.{max}
use Rattle.osm_polygon.specs.Strips.{AreStrips, edges_held, lists_of}
use Rattle.osm_polygon.proofs.strips.empty_strips.Given as goal

abbrev pub invariant-loop-number : goal.invariant-loop-number
invariant-loop-number l = record {
  are : AreStrips l.fn.cut.axis l.fn.cut.shift l.fn.cut.first [] (lists_of l.strips.items);
  number : l.fn.cut.first + length l.strips.items ≡ l._number;
  ends : l._number ≤ max l.fn.cut.first l._number-end;
  none : edges_held l.strips.items ≡ 0;
}
