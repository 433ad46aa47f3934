use Rattle.std.proofs.Common.{arith}
use Rattle.pbf_dense.proofs.SteadyLemmas.{steady_is}
use Rattle.pbf_dense.proofs.dense.Dense.steady_count.Goals as goal

pub returns : goal.returns
returns c =
    steady_is c.args.self.now c.in_ok-count.count c.in_ok-count.ensures.counted (omega (arith, c.in_ok-lats.ensures.counted, c.if-lats-count.false)) (omega (arith, c.in_ok-lons.ensures.counted, c.if-lons-count.false)) (c.is_steady.ensures c.if-not-is_steady.false)
