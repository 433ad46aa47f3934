use Rattle.std.proofs.Common.{rules, ◌∷◌, sym, w64}
use mir.Val.{SFits}
use Rattle.std.proofs.lemmas.Int.{to_z-of_z}
use Rattle.pbf_wire.specs.Cursors.{sums_left}
use Rattle.pbf_dense.specs.Within.{ids_within_left}
use Rattle.pbf_dense.proofs.WithinLemmas.{skipped, none_inside, no_lons, shorter}
use Rattle.pbf_dense.proofs.within.IdsWithin.skip_outside.Goals as goal

pub returns-in_err-reached-clause-left : goal.returns-in_err-reached-clause-left
returns-in_err-reached-clause-left c = rw c.from_residual.ensures (none_inside _ _ _ _ _ c.in_err-reached.ensures.outside)

pub returns-in_err-reached-clause-ended : goal.returns-in_err-reached-clause-ended
unfolding ids_within_left
returns-in_err-reached-clause-ended c = rw (c.from_residual.ensures, c.in_err-reached.ensures.left) (no_lons _ _ _ _)

pub returns-clause-left : goal.returns-clause-left
returns-clause-left c =
    let it = c.args.self.now in
    let reached = c.in_ok-reached.reached in
    let fits : SFits w64 reached.value = search rules in
    rw (to_z-of_z w64 reached.value fits) (
    skipped it.lat_span it.lon_span reached.skipped (sums_left it.ids) (sums_left it.lats) (sums_left it.lons) (sums_left c.pass.new.self) (sums_left c.pass-2.new.self) (reached.value ∷ sums_left c.reach.new.values)
    c.in_ok-reached.ensures.outside c.pass.ensures c.pass-2.ensures (sym c.in_ok-reached.ensures.left))

pub returns-clause-fewer : goal.returns-clause-fewer
returns-clause-fewer c =
    shorter (sums_left c.args.self.now.lons) (sums_left c.reach.new.values) c.in_ok-reached.reached.skipped c.in_ok-reached.reached.value c.in_ok-reached.ensures.left
