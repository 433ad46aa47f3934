use Rattle.std.proofs.Common.{◌≡◌, ◌+◌, ◌++◌, [], ◌∷◌, List, ℕ, length, take, Some, sym, refl, ap, subst, ◌∙◌, rules, arith}
use Rattle.std.specs.Prelude.{filter}
use Rattle.std.specs.List.{slice_get}
use Rattle.std.proofs.lemmas.Option.{slice_get_read}
use Rattle.std.proofs.lemmas.List.{length_push, take_more}
use Rattle.osm_polygon.specs.declared.edge.Axis.{Axis}
use Rattle.osm_polygon.specs.declared.edge.Edge.{Edge}
use Rattle.osm_polygon.specs.declared.edge.Axis.TheVariants.{Latitude}
use Rattle.osm_polygon.specs.declared.strips.Strip.{Strip}
use Rattle.osm_polygon.specs.declared.bands.Band.{Band}
use Rattle.osm_polygon.specs.Edges.{is_in_strip}
use Rattle.osm_polygon.specs.Strips.{AreStrips, edges_held, lists_of}
use Rattle.osm_polygon.specs.Bands.{IsBand, AreBands, held_by_bands, cells_by}
use Rattle.osm_polygon.proofs.StripLemmas.{strip_at}
use Rattle.osm_polygon.proofs.BandLemmas.{bands_more, held_more, held_by_more, cells_by_more}
use Rattle.osm_polygon.proofs.bands.bands_of.Goals as goal

pub loop-strip-preserved : goal.loop-strip-preserved
loop-strip-preserved c =
    let so_far = c.loop-strip.invariant in
    let shift = c.args.cut.shift in
    let first = c.args.cut.first in
    let edges = c.args.edges.now in
    let strips = c.in_ok-strips.strips.items in
    let items = c.as_slice-strip-items.result.now in
    let i = c.loop-strip.strip-index in
    let strip = c.strip-item.result in
    let bands = c.loop-strip.bands.items in
    let band = c.in_ok-band_of.field-0 in
    let number = c.loop-strip.number in
    let are : AreStrips Latitude shift first edges (lists_of strips)
    = subst (λ (a : Axis). AreStrips a shift first edges (lists_of strips)) c.requires.0 c.in_ok-strips.ensures.are in
    let found : slice_get strips i ≡ Some strip
    = subst (λ (l : List Strip). slice_get l i ≡ Some strip) c.as_slice-strip-items.ensures.value (slice_get_read items (length items) i strip refl c.loop-strip-test.true c.strip-item.is) in
    let near : c.as_slice.result.now ≡ filter (is_in_strip Latitude shift (first + i)) edges
    = c.as_slice.ensures.value ∙ strip_at Latitude shift first edges strips i strip are found in
    let at : number ≡ first + length bands = so_far.number ∙ ap (λ (n : ℕ). first + n) (sym so_far.equal) in
    let one : IsBand (record { shift = shift; band = number }) (filter (is_in_strip Latitude shift number) edges) band
    = subst (λ (l : List Edge). IsBand (record { shift = shift; band = number }) l band)
    (near ∙ ap (λ (n : ℕ). filter (is_in_strip Latitude shift n) edges) (sym so_far.number)) c.in_ok-band_of.ensures.is in
    let all = bands_more shift first edges bands band so_far.are
    (subst (λ (n : ℕ). IsBand (record { shift = shift; band = n }) (filter (is_in_strip Latitude shift n) edges) band) at one) in
    let more : take (i + 1) items ≡ take i items ++ strip ∷ [] = search (rules, take_more items i strip) in
    record {
      are = subst (λ (l : List Band). AreBands shift first edges l) (sym c.in_ok-push.ensures.items) all;
      number = omega (arith, so_far.number);
      equal = ap length c.in_ok-push.ensures.items ∙ length_push bands band ∙ ap (λ n. n + 1) so_far.equal;
      cells = omega (
        arith,
        ap cells_by c.in_ok-push.ensures.items,
        cells_by_more bands band,
        ap edges_held more,
        held_more (take i items) strip,
        so_far.cells,
        c.in_ok-band_of.ensures.number,
        ap length c.as_slice.ensures.value,
      );
      few = omega (
        arith,
        ap held_by_bands c.in_ok-push.ensures.items,
        held_by_more bands band,
        ap edges_held more,
        held_more (take i items) strip,
        so_far.few,
        c.in_ok-band_of.ensures.few,
        ap length c.as_slice.ensures.value,
      );
    }
