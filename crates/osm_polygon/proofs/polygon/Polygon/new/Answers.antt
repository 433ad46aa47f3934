use Rattle.std.proofs.Common.{◌+◌, ◌≤◌, List, length, map, sym, ap, subst, arith}
use Rattle.osm_polygon.specs.declared.edge.Axis.TheVariants.{Latitude}
use Rattle.osm_polygon.specs.declared.edge.Edge.{Edge}
use Rattle.osm_polygon.specs.RingPlaces.{places_of}
use Rattle.osm_polygon.specs.Strips.{AreWithin, spans_of}
use Rattle.osm_polygon.specs.Bands.{AreClosed}
use Rattle.osm_polygon.specs.Belts.{AreBelts}
use Rattle.osm_polygon.proofs.StripLemmas.{within_wider}
use Rattle.osm_polygon.proofs.BandLemmas.{closed_rings}
use Rattle.osm_polygon.proofs.polygon.Polygon.new.Goals as goal

pub invariant_of-result : goal.invariant_of-result
invariant_of-result c =
    let edges = c.in_ok-edges.edges.items in
    let cut = c.choose_cut-cut.result in
    let belts = c.in_ok-belts.belts.items in
    let one = c.as_slice-2.ensures.value in
    let two = c.as_slice-3.ensures.value in
    let within : AreWithin Latitude cut.shift cut.first cut.end edges
    = subst (λ (l : List Edge). AreWithin Latitude cut.shift cut.first cut.end l) one c.choose_cut-cut.ensures.within in
    let number : cut.end ≤ cut.first + length belts = omega (arith, c.in_ok-belts.ensures.number) in (
      subst (λ (l : List Edge). AreBelts cut.shift cut.first l belts) two c.in_ok-belts.ensures.are,
      within_wider Latitude cut.shift cut.first cut.end cut.first (cut.first + length belts) edges within (omega arith) number,
      subst AreClosed (sym c.in_ok-edges.ensures) (closed_rings (map places_of c.args.rings.now)),
      c.choose_cut-cut.ensures.width.1,
      omega (arith, c.in_ok-belts.ensures.few, c.choose_cut-cut.ensures.few, ap length one, ap (spans_of cut) one, ap (spans_of cut) two),
      omega (arith, c.in_ok-belts.ensures.cells, c.in_ok-belts.ensures.number, c.choose_cut-cut.ensures.number, c.choose_cut-cut.ensures.few, ap length one, ap (spans_of cut) one, ap (spans_of cut) two),
    )
