use Rattle.std.proofs.Common.{refl}
use Rattle.std.proofs.lemmas.Result.{IfOk-weaker}
use Rattle.pbfcut.proofs.extracting.extract_parents_with_receipt.Goals as goal

pub returns-clause-spared : goal.returns-clause-spared
returns-clause-spared g c = IfOk-weaker c.cut_parents.result _ _ (λ receipt is. is (λ _. refl)) c.cut_parents.ensures.spared
