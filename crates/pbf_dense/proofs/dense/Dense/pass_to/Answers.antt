use Rattle.std.proofs.Common.{◌≡◌, refl, arith}
use Rattle.pbf_dense.proofs.dense.Dense.pass_to.Goals as goal

-- no node is skipped
pub returns-else-count-gt0 : goal.returns-else-count-gt0
returns-else-count-gt0 c = let none : c.args.count ≡ 0 = omega (arith, c.if-count-gt0.false) in rw none refl
