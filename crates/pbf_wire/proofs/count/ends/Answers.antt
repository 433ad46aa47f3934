use Rattle.std.proofs.Common.{ltb, arith, w8, ◌<◌, ◌^◌, subst, sym, ℕ}
use Rattle.std.proofs.lemmas.Simd.{bitmask_splat}
use Rattle.pbf_wire.proofs.CountLemmas.{mask_small}
use Rattle.pbf_wire.proofs.count.ends.Goals as goal

pub returns-clause-mask : goal.returns-clause-mask
returns-clause-mask c = bitmask_splat w8 ltb c.args.lanes 32 128 c.requires (omega arith)

pub returns-clause-small : goal.returns-clause-small
returns-clause-small c = subst (λ (n : ℕ). n < 2 ^ 32) (sym (returns-clause-mask c)) (mask_small c.args.lanes c.requires)
