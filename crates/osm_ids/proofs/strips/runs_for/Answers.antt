use Rattle.std.proofs.Common.{◌≤◌, ◌^◌, arith, rules}
use Rattle.std.proofs.Math.Pow.{pow_mono}
use Rattle.osm_ids.proofs.strips.runs_for.Goals as goal

pub returns-clause-few : goal.returns-clause-few
returns-clause-few c =
    let bits : c.clamp-bits.result ≤ 20 = search rules in
    let most : 2 ^ c.clamp-bits.result ≤ 2 ^ 20 = pow_mono bits in
    omega (arith, most)
