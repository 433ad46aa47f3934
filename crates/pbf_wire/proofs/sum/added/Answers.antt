use Rattle.std.proofs.Common.{rules, sym, ◌+ℤ◌}
use Rattle.pbf_wire.specs.Signed.{IsWithin}
use Rattle.pbf_wire.proofs.SumLemmas.{added_out}
use Rattle.pbf_wire.proofs.sum.added.Goals as goal

pub returns-else-limit-sum-clause-exact : goal.returns-else-limit-sum-clause-exact
returns-else-limit-sum-clause-exact c =
    let out : ¬ IsWithin c.args.limit (c.args.total +ℤ c.args.number) = search rules in
    sym (added_out c.args.limit c.args.total c.args.number out)
