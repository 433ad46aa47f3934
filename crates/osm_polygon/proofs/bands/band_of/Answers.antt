use Rattle.std.proofs.Common.{◌≡◌, ◌+◌, [], List, Bool, ℕ, length, Some, sym, refl, ap, ap₂, subst, ◌∙◌, rules, arith}
use Rattle.std.specs.Prelude.{filter}
use Rattle.std.specs.List.{slice_get}
use Rattle.std.proofs.lemmas.Option.{slice_get_read}
use Rattle.std.proofs.lemmas.List.{length_push}
use Rattle.osm_polygon.specs.declared.edge.Axis.{Axis}
use Rattle.osm_polygon.specs.declared.edge.Edge.{Edge}
use Rattle.osm_polygon.specs.declared.edge.Axis.TheVariants.{Longitude}
use Rattle.osm_polygon.specs.declared.strips.Strip.{Strip}
use Rattle.osm_polygon.specs.Edges.{is_in_strip}
use Rattle.osm_polygon.specs.Strips.{AreStrips, lists_of}
use Rattle.osm_polygon.specs.Bands.{differ, crosses_border, is_odd_of, is_last, is_east, AreOdds}
use Rattle.osm_polygon.proofs.StripLemmas.{strip_at, within_wider}
use Rattle.osm_polygon.proofs.BandLemmas.{none_east, odds_more, odd_next}
use Rattle.osm_polygon.proofs.bands.band_of.Goals as goal

pub loop-cell-init : goal.loop-cell-init
loop-cell-init c =
    let cut = c.choose_cut-cut.result in
    let edges = c.args.edges.now in
    let empty : c.new-odds.result.items ≡ [] = search rules in
    record {
      odds = subst (λ (l : List Bool). AreOdds (crosses_border c.args.border) cut.shift cut.first edges l) (sym empty) tt;
      odd = sym (none_east (crosses_border c.args.border) cut.shift cut.first cut.end (cut.first + 0) edges c.choose_cut-cut.ensures.within (omega arith));
      number = omega arith;
      equal = ap length empty;
    }

pub loop-cell-preserved : goal.loop-cell-preserved
loop-cell-preserved c =
    let so_far = c.loop-cell.invariant in
    let test = crosses_border c.args.border in
    let cut = c.choose_cut-cut.result in
    let shift = cut.shift in
    let edges = c.args.edges.now in
    let cells = c.in_ok-cells.cells.items in
    let items = c.as_slice-cell-items.result.now in
    let i = c.loop-cell.cell-index in
    let cell = c.cell-item.result in
    let odds = c.loop-cell.odds.items in
    let odd = c.loop-cell.is_odd in
    let are : AreStrips Longitude shift cut.first edges (lists_of cells)
    = subst (λ (a : Axis). AreStrips a shift cut.first edges (lists_of cells)) c.choose_cut-cut.ensures.width.0 c.in_ok-cells.ensures.are in
    let found : slice_get cells i ≡ Some cell
    = subst (λ (l : List Strip). slice_get l i ≡ Some cell) c.as_slice-cell-items.ensures.value (slice_get_read items (length items) i cell refl c.loop-cell-test.true c.cell-item.is) in
    let near : c.as_slice.result.now ≡ filter (is_in_strip Longitude shift (cut.first + i)) edges
    = c.as_slice.ensures.value ∙ strip_at Longitude shift cut.first edges cells i cell are found in
    let next : (cut.first + i) + 1 ≡ cut.first + (i + 1) = omega arith in
    record {
      odds = subst (λ (l : List Bool). AreOdds test shift cut.first edges l) (sym c.in_ok-push.ensures.items)
          (odds_more test shift cut.first edges odds odd so_far.odds (so_far.odd ∙ ap (λ (n : ℕ). is_odd_of (is_east shift (cut.first + n) test) edges) (sym so_far.equal)));
      odd = c.differ-is_odd.ensures
          ∙ ap₂ differ so_far.odd (c.is_odd_here.ensures ∙ ap₂ (λ (n : ℕ) (l : List Edge). is_odd_of (is_last shift n test) l) so_far.number near)
          ∙ sym (odd_next test shift (cut.first + i) edges) ∙ ap (λ (n : ℕ). is_odd_of (is_east shift n test) edges) next;
      number = omega (arith, so_far.number);
      equal = ap length c.in_ok-push.ensures.items ∙ length_push odds odd ∙ ap (λ n. n + 1) so_far.equal;
    }

pub returns-clause-is : goal.returns-clause-is
returns-clause-is c =
    let so_far = c.loop-cell.invariant in
    let cut = c.choose_cut-cut.result in
    let edges = c.args.edges.now in
    let cells = c.in_ok-cells.cells.items in
    record {
      cells = subst (λ (a : Axis). AreStrips a cut.shift cut.first edges (lists_of cells)) c.choose_cut-cut.ensures.width.0 c.in_ok-cells.ensures.are;
      odds = so_far.odds;
      equal = omega (arith, so_far.equal, c.loop-cell-test.false, c.loop-cell.auto.cell-index-end, ap length c.as_slice-cell-items.ensures.value);
      within = within_wider Longitude cut.shift cut.first cut.end cut.first (cut.first + length cells) edges c.choose_cut-cut.ensures.within (omega arith)
          (omega (arith, c.in_ok-cells.ensures.number));
      width = c.choose_cut-cut.ensures.width.1;
    }
