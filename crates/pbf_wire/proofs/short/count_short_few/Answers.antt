use Rattle.std.proofs.Common.{arith}
use Rattle.pbf_wire.proofs.ShortLemmas.{short_few}
use Rattle.pbf_wire.proofs.short.count_short_few.Goals as goal

pub returns-clause-short : goal.returns-clause-short
returns-clause-short c =
    let last = c.in-Some.ensures.item.3.1 0 in
    short_few c.args.bytes.now c.window_of-window.result c.requires c.window_of-window.ensures.front (omega (arith, last, c.if-last-ge128.false)) (c.end_soon.ensures c.if-not-end_soon.false)
