use Rattle.std.proofs.Common.{rules, arith, w64}
use Rattle.std.proofs.lemmas.Int.{ints, to_z-of_z}
use mir.Val.{SFits}
use Rattle.pbf_wire.proofs.sums.Sums.is_near.Goals as goal

pub abs-requires : goal.abs-requires
abs-requires c =
    let sums = c.args.self.now in
    let limit_fits : SFits w64 sums.limit = search rules in
    let total_fits : SFits w64 sums.total = search rules in
    rw (to_z-of_z w64 sums.total total_fits) (omega (arith, ints, sums.within.above, sums.within.below, limit_fits))
