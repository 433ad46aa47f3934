use Rattle.std.proofs.Common.{◌≡◌, ◌+◌, ◌*◌, ◌≤◌, length, take}
use Rattle.osm_polygon.specs.Strips.{edges_held}
use Rattle.osm_polygon.specs.Bands.{AreBands, held_by_bands, cells_by}
use Rattle.osm_polygon.proofs.bands.bands_of.Given as goal

-- the bands so far
abbrev pub invariant-loop-strip : goal.invariant-loop-strip
invariant-loop-strip l = record {
  are : AreBands l.cut.shift l.cut.first l.edges l.bands.items;
  number : l.number ≡ l.cut.first + l.strip-index;
  equal : length l.bands.items ≡ l.strip-index;
  cells : cells_by l.bands.items ≤ edges_held (take l.strip-index l.strip-items) + l.strip-index;
  few : held_by_bands l.bands.items ≤ 2 * edges_held (take l.strip-index l.strip-items);
}
