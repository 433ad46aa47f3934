use Rattle.std.proofs.Common.{arith, ◌∙◌, ap, ◌<◌, ◌↔◌, subst, sym, ℕ}
use Rattle.std.specs.Prelude.{count_ones, slice_index, IsBitSet}
use Rattle.std.proofs.lemmas.Simd.{ones-mask_l}
use Rattle.pbf_wire.proofs.CountLemmas.{is_end, bit_of_ends}
use Rattle.pbf_wire.proofs.count.end_mask.Goals as goal

pub returns-clause-bits : goal.returns-clause-bits
returns-clause-bits c = λ i lt. subst (λ (m : ℕ). IsBitSet m i ↔ (slice_index c.args.block.now i < 128)) (sym c.ends.ensures.mask) (bit_of_ends c.args.block.now i (omega (arith, c.told-block)))

pub returns-clause-ones : goal.returns-clause-ones
returns-clause-ones c = ap count_ones c.ends.ensures.mask ∙ ones-mask_l is_end c.args.block.now
