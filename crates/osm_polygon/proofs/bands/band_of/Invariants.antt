use Rattle.std.proofs.Common.{◌≡◌, ◌+◌, length}
use Rattle.osm_polygon.specs.Bands.{crosses_border, is_odd_of, is_east, AreOdds}
use Rattle.osm_polygon.proofs.bands.band_of.Given as goal

-- the bits of the cells so far, and that of the next one
abbrev pub invariant-loop-cell : goal.invariant-loop-cell
invariant-loop-cell l = record {
  odds : AreOdds (crosses_border l.border) l.cut.shift l.cut.first l.edges l.odds.items;
  odd : l.is_odd ≡ is_odd_of (is_east l.cut.shift (l.cut.first + l.cell-index) (crosses_border l.border)) l.edges;
  number : l.number ≡ l.cut.first + l.cell-index;
  equal : length l.odds.items ≡ l.cell-index;
}
