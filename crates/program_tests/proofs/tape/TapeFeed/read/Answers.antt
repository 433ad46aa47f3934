-- What was still to supply is what this read gave, and then the rest; what has passed by now is what had passed before, and then that.
use Rattle.std.proofs.Common.{rules, arith, ap, Some}
use Rattle.std.proofs.lemmas.List.{places, same_lists}
use Rattle.program_tests.proofs.tape.TapeFeed.read.Goals as goal

pub returns-clause-bytes : goal.returns-clause-bytes
returns-clause-bytes c = ap (λ rest. Some rest) (same_lists _ _ (search (rules, places)) (λ k d h. grind (arith, places)))

pub returns-clause-passed : goal.returns-clause-passed
returns-clause-passed c log b was = same_lists _ _ (search (rules, places)) (λ k d h. grind (arith, places))
