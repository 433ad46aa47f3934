use Rattle.std.proofs.Common.{◌≡◌, ◌∙◌, ap, arith, take}
use Rattle.std.specs.Prelude.{count_by, count_ones}
use Rattle.pbf_wire.proofs.CountLemmas.{is_end, count_split}
use Rattle.pbf_wire.proofs.count.count_ends.Goals as goal

pub loop-block-preserved : goal.loop-block-preserved
loop-block-preserved c =
    let parts = c.in-Some.ensures.cases in
    let block : count_ones c.end_mask.result ≡ count_by is_end (take 32 c.loop-block.rest.now) = c.end_mask.ensures.ones ∙ ap (count_by is_end) parts.0 in
    let after = ap (count_by is_end) parts.1 in
    let split = count_split 32 c.loop-block.rest.now in
    record { so_far = omega (arith, block, after, split, c.loop-block.invariant.so_far) }
