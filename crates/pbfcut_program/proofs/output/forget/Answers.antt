use Rattle.std.proofs.Common.{[], ◌∷◌, refl}
use Rattle.pbfcut_program.proofs.output.forget.Goals as goal

pub returns-in-Pbfcutz : goal.returns-in-Pbfcutz
returns-in-Pbfcutz g c =
    let gone = c.remove.ensures in
    rw c.in-Pbfcutz.is (gone.0 ∷ [], gone.2, ([], gone.0, refl, tt, gone.1))
