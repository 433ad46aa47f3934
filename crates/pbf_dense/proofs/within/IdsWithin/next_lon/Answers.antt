use Rattle.std.proofs.Common.{◌≡◌, [], List, ℤ, MatchOption, subst, ap, sym, ◌∙◌, rules, false, w64}
use mir.Val.{SFits}
use Rattle.std.proofs.lemmas.Int.{to_z-of_z}
use Rattle.pbf_wire.specs.Cursors.{sums_left}
use Rattle.pbf_wire.specs.Spans.{is_in}
use Rattle.pbf_dense.specs.Within.{ids_within_left, ids_along, after_lon}
use Rattle.pbf_dense.proofs.WithinLemmas.{one_outside, no_lons}
use Rattle.pbf_dense.proofs.within.IdsWithin.next_lon.Goals as goal

pub returns-in_err-lon-clause-left : goal.returns-in_err-lon-clause-left
unfolding ids_within_left
returns-in_err-lon-clause-left c = rw (c.from_residual.ensures, c.in_err-lon.ensures.steps.0) (no_lons _ _ _ _)

pub returns-in_err-lon-clause-ended : goal.returns-in_err-lon-clause-ended
unfolding ids_within_left
returns-in_err-lon-clause-ended c = rw (c.from_residual.ensures, c.in_err-lon.ensures.steps.1) (no_lons _ _ _ _)

pub returns-clause-left : goal.returns-clause-left
unfolding ids_within_left
returns-clause-left c =
    let it = c.args.self.now in
    let lon = c.in_ok-lon.lon in
    let fits : SFits w64 lon = search rules in
    let outside : is_in it.lon_span lon ≡ false = ap (is_in it.lon_span) (sym (to_z-of_z w64 lon fits)) ∙ sym c.has.ensures ∙ c.if-has.false in
    let gone =
    ap (λ (l : List ℤ). ids_along it.lat_span it.lon_span (sums_left it.ids) (sums_left it.lats) l) c.in_ok-lon.ensures.steps
    ∙ one_outside it.lat_span it.lon_span (sums_left it.ids) (sums_left it.lats) (sums_left c.next.new.self) lon outside in
    subst (λ (l : List ℤ). MatchOption c.skip_outside.result (l ≡ []) (λ next. l ≡ after_lon next c.skip_outside.new.self)) (sym gone) c.skip_outside.ensures.left
