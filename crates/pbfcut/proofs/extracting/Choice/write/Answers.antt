use Rattle.std.proofs.Common.{refl}
use Rattle.std.proofs.lemmas.Result.{err_from_is_err_and}
use Rattle.pbfcut.specs.Pick.{take_of}
use Rattle.pbfcut.proofs.extracting.Choice.write.Goals as goal

pub returns-in_err-counts : goal.returns-in_err-counts
unfolding take_of
returns-in_err-counts g c =
    let p = err_from_is_err_and c.from_residual.result c.from_residual.ensures.1 in
    let wrote = c.in_err-counts.ensures in
    rw (p.1, p.2) (record { input = tt; packed = tt; front = wrote.beginning; stops = wrote.stops; keeps = wrote.keeps; out = wrote.out })

pub returns : goal.returns
unfolding take_of
returns g c =
    let wrote = c.in_ok-counts.ensures in
    record { input = (refl, refl); packed = wrote.packed; front = tt; stops = tt; keeps = wrote.keeps; out = wrote.out }
