use Rattle.std.proofs.Common.{arith}
use Rattle.std.proofs.lemmas.Bool.{eqb-true}
use Rattle.pbf_wire.proofs.ShortLemmas.{all_told}
use Rattle.pbf_wire.proofs.short.end_soon.Goals as goal

pub returns : goal.returns
returns c = λ all. all_told c.args.window.now c.ends_in-one.result (omega (arith, c.told-window)) c.ends_in-one.ensures (eqb-true _ _ all)
