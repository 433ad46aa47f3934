use Rattle.std.proofs.Common.{◌≡◌, ◌+◌, ◌++◌, [], ◌∷◌, List, ℕ, length, take, Some, sym, refl, ap, subst, ◌∙◌, rules, arith}
use Rattle.std.specs.Prelude.{filter}
use Rattle.std.specs.List.{slice_get}
use Rattle.std.proofs.lemmas.Option.{slice_get_read}
use Rattle.std.proofs.lemmas.List.{length_push, take_more}
use Rattle.osm_polygon.specs.declared.edge.Axis.{Axis}
use Rattle.osm_polygon.specs.declared.edge.Axis.TheVariants.{Latitude}
use Rattle.osm_polygon.specs.declared.strips.Strip.{Strip}
use Rattle.osm_polygon.specs.declared.belts.Belt.{Belt}
use Rattle.osm_polygon.specs.Edges.{is_in_strip}
use Rattle.osm_polygon.specs.Strips.{AreStrips, edges_held, lists_of}
use Rattle.osm_polygon.specs.Belts.{IsBelt, AreBelts, held_in, cells_in}
use Rattle.osm_polygon.proofs.StripLemmas.{strip_at}
use Rattle.osm_polygon.proofs.BandLemmas.{held_more}
use Rattle.osm_polygon.proofs.BeltLemmas.{belts_more, held_in_more, cells_in_more}
use Rattle.osm_polygon.proofs.belts.belts_of.Goals as goal

pub loop-strip-preserved : goal.loop-strip-preserved
loop-strip-preserved c =
    let so_far = c.loop-strip.invariant in
    let shift = c.args.cut.shift in
    let first = c.args.cut.first in
    let edges = c.args.edges.now in
    let strips = c.in_ok-strips.strips.items in
    let items = c.as_slice-strip-items.result.now in
    let i = c.loop-strip.strip-index in
    let strip = c.strip-item.result in
    let belts = c.loop-strip.belts.items in
    let belt = c.in_ok-belt_of.field-0 in
    let number = c.loop-strip.number in
    let are : AreStrips Latitude shift first edges (lists_of strips)
    = subst (λ (a : Axis). AreStrips a shift first edges (lists_of strips)) c.requires.width.0 c.in_ok-strips.ensures.are in
    let found : slice_get strips i ≡ Some strip
    = subst (λ (l : List Strip). slice_get l i ≡ Some strip) c.as_slice-strip-items.ensures.value (slice_get_read items (length items) i strip refl c.loop-strip-test.true c.strip-item.is) in
    let near : c.as_slice.result.now ≡ filter (is_in_strip Latitude shift number) edges
    = c.as_slice.ensures.value ∙ strip_at Latitude shift first edges strips i strip are found ∙ ap (λ (n : ℕ). filter (is_in_strip Latitude shift n) edges) (sym so_far.number) in
    let at : number ≡ first + length belts = so_far.number ∙ ap (λ (n : ℕ). first + n) (sym so_far.equal) in
    let all = belts_more shift first edges belts belt so_far.are (subst (λ (n : ℕ). IsBelt shift n edges belt) at (c.in_ok-belt_of.ensures.is edges near)) in
    let more : take (i + 1) items ≡ take i items ++ strip ∷ [] = search (rules, take_more items i strip) in
    record {
      are = subst (λ (l : List Belt). AreBelts shift first edges l) (sym c.in_ok-push.ensures.items) all;
      number = omega (arith, so_far.number);
      equal = ap length c.in_ok-push.ensures.items ∙ length_push belts belt ∙ ap (λ n. n + 1) so_far.equal;
      cells = omega (
        arith,
        ap cells_in c.in_ok-push.ensures.items,
        cells_in_more belts belt,
        ap edges_held more,
        held_more (take i items) strip,
        so_far.cells,
        c.in_ok-belt_of.ensures.number,
        ap length c.as_slice.ensures.value,
      );
      few = omega (
        arith,
        ap held_in c.in_ok-push.ensures.items,
        held_in_more belts belt,
        ap edges_held more,
        held_more (take i items) strip,
        so_far.few,
        c.in_ok-belt_of.ensures.few,
        ap length c.as_slice.ensures.value,
      );
    }
