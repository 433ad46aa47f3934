use Rattle.std.proofs.lemmas.Result.{IfOk-weaker}
use Rattle.pbfcut_program.proofs.printing.refusal_line.Goals as goal

pub returns : goal.returns
returns c = IfOk-weaker c.digest_text.result _ _ (λ line e. (c.as_bytes.result.now, e)) c.digest_text.ensures
