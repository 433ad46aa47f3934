use Rattle.std.proofs.Common.{bit_and, replicate, ◌∙◌}
use Rattle.std.proofs.lemmas.Simd.{length-zip2}
use Rattle.pbf_wire.proofs.RisingRuns.{all_halved}
use Rattle.pbf_wire.proofs.runs.are_halved.Goals as goal

pub are_below-requires-then-are_below : goal.are_below-requires-then-are_below
are_below-requires-then-are_below c = length-zip2 bit_and c.args.block.now (replicate 16 1) c.told-block ∙ c.told-block

pub returns-then-are_below : goal.returns-then-are_below
returns-then-are_below c = λ t. all_halved c.args.block.now 16 c.told-block (c.are_below.ensures c.if-are_below.true) (c.are_below-then-are_below.ensures t)
