use Rattle.std.proofs.Common.{arith}
use Rattle.std.proofs.lemmas.List.{take_rest}
use Rattle.pbf_block.proofs.PlainLemmas.{bytes_begins}
use Rattle.pbf_block.proofs.plain.bytes_front.Goals as goal

pub returns : goal.returns
returns c =
    let e = c.in_ok-size.ensures in
    let after = c.in_ok-size.after in
    let size = c.in_ok-size.size in
    let m = c.args.bytes.now in
    rw (take_rest, take_rest) (λ at. bytes_begins at c.args.tag size after m c.requires e.0 e.1 e.2 e.3 e.4 (omega (arith, c.if-rest-size.false)))
