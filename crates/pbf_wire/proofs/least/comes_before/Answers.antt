use Rattle.std.proofs.Common.{◌∙◌, sym, arith}
use Rattle.std.proofs.lemmas.Bool.Decides.{nat_tests}
use Rattle.pbf_wire.proofs.ReasonLemmas.{by_number}
use Rattle.pbf_wire.proofs.least.comes_before.Goals as goal

pub returns-then-first-second : goal.returns-then-first-second
returns-then-first-second c = grind (arith, nat_tests) ∙ sym (by_number c.args.one c.args.other)

pub returns : goal.returns
returns c = grind (arith, nat_tests) ∙ sym (by_number c.args.one c.args.other)
