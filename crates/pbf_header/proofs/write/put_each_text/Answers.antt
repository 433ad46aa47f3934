use Rattle.std.proofs.Common.{arith}
use Rattle.pbf_header.proofs.WritingLemmas.{text_put, texts_put}
use Rattle.pbf_header.proofs.write.put_each_text.Goals as goal

pub loop-text-preserved : goal.loop-text-preserved
loop-text-preserved c = text_put c.args.number c.args.texts.now c.loop-text.text-index _ _ _ _ c.loop-text-test.true (rw (c.deref.ensures.value, c.text-item.is) at c.in_ok-put_bytes.ensures) c.loop-text.invariant

pub returns : goal.returns
returns c = texts_put c.args.number c.args.texts.now c.loop-text.text-index _ _ (omega arith) c.loop-text.invariant
