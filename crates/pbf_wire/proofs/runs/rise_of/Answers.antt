use Rattle.std.proofs.Common.{map, ap, arith, w16}
use Rattle.std.specs.Simd.Lanes.{sum_l}
use Rattle.std.proofs.lemmas.List.{map-id}
use Rattle.std.proofs.lemmas.Simd.{sum_fits}
use Rattle.pbf_wire.proofs.RisingRuns.{run_small}
use Rattle.pbf_wire.proofs.runs.rise_of.Goals as goal

pub overflow_add-sum : goal.overflow_add-sum
overflow_add-sum c =
    let block = c.args.block.now in
    sum_fits w16 0 (map (λ x. x) block) (omega (arith, ap sum_l (map-id block), run_small block (c.are_halved.ensures c.if-not-are_halved.false), c.told-block))
