use Rattle.std.proofs.Common.{refl}
use Rattle.std.proofs.lemmas.Result.{IfOk-weaker}
use Rattle.pbfcut.proofs.extracting.extract_with_receipt.Goals as goal

pub returns-clause-spared : goal.returns-clause-spared
returns-clause-spared g c = IfOk-weaker c.cut.result _ _ (λ receipt is. is (λ _. refl)) c.cut.ensures.spared
