use Rattle.osm_box.proofs.Numbers.{no_minus}
use Rattle.osm_box.proofs.degrees.degrees.Goals as goal

pub returns-in-None : goal.returns-in-None
returns-in-None c =
    let other = no_minus c.args.text.now c.in-None.ensures.cases in
    rw other c.magnitude-in-None.ensures.value
