use Rattle.std.proofs.Common.{◌≡◌, ◌+◌, ◌*◌, ◌≤◌, length, take}
use Rattle.osm_polygon.specs.Strips.{edges_held}
use Rattle.osm_polygon.specs.Belts.{AreBelts, held_in, cells_in}
use Rattle.osm_polygon.proofs.belts.belts_of.Given as goal

-- the belts so far
abbrev pub invariant-loop-strip : goal.invariant-loop-strip
invariant-loop-strip l = record {
  are : AreBelts l.cut.shift l.cut.first l.edges l.belts.items;
  number : l.number ≡ l.cut.first + l.strip-index;
  equal : length l.belts.items ≡ l.strip-index;
  cells : 2 * cells_in l.belts.items ≤ 5 * edges_held (take l.strip-index l.strip-items) + 2 * l.strip-index;
  few : held_in l.belts.items ≤ 3 * edges_held (take l.strip-index l.strip-items);
}
