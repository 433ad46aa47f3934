use Rattle.std.proofs.Common.{◌+◌, ◌<◌, ◌^◌, take}
use Rattle.osm_polygon.specs.Strips.{AreWithin}
use Rattle.osm_polygon.proofs.strips.ends.Given as goal

abbrev pub invariant-loop-edge : goal.invariant-loop-edge
invariant-loop-edge l = record {
  within : AreWithin l.axis 0 l.first (l.last + 1) (take l.edge-index l.edges);
  small : l.last < 2 ^ 39;
}
