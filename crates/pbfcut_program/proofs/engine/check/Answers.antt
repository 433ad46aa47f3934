use Rattle.pbfcut_program.proofs.PublishedCalls.{check_published}
use Rattle.pbfcut_program.proofs.RawCalls.{check_works}
use Rattle.pbfcut_program.proofs.engine.check.Goals as goal

pub returns-in-Pbfcut : goal.returns-in-Pbfcut
returns-in-Pbfcut g c =
    let h = c.one_pass-how.ensures in
    let receipt = c.check_with_receipt.ensures.receipt in
    let ends = c.check_with_receipt.ensures.ends in
    rw c.in-Pbfcut.is (λ fresh. check_works g.F.Feed c.args.engine.packs c.args.engine.digests _ c.args.pass.now c.check_with_receipt.new.feed fresh c.check_with_receipt.result c.reported.result (rw h at receipt) (rw h at ends) c.reported.ensures)

pub returns-in-Pbfcutz : goal.returns-in-Pbfcutz
returns-in-Pbfcutz g c =
    let receipt = c.check_with_receipt-in-Pbfcutz.ensures.receipt in
    rw c.in-Pbfcutz.is (λ fresh. check_published g.F.Feed c.args.engine.packs c.args.engine.digests _ c.args.pass.now c.check_with_receipt-in-Pbfcutz.new.feed fresh c.check_with_receipt-in-Pbfcutz.result c.published.result (rw c.one_pass-how.ensures at receipt) c.check_with_receipt-in-Pbfcutz.ensures.stops c.published.ensures)
