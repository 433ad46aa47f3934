use Rattle.pbf_block.proofs.PlainLemmas.{number_begins}
use Rattle.pbf_block.proofs.plain.number_front.Goals as goal

pub returns : goal.returns
returns c =
    let e = c.in_ok-number.ensures in
    λ at. number_begins at c.args.tag c.in_ok-number.number c.in_ok-number.after c.args.bytes.now c.requires e.0 e.1 e.2 e.3 e.4
