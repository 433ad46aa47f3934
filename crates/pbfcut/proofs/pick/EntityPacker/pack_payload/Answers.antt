use Rattle.std.proofs.Common.{Err, ap, inl, refl}
use Rattle.std.proofs.lemmas.Result.{err_from_is_err_and}
use Rattle.pbfcut.proofs.ShowingLemmas.{read_stops}
use Rattle.pbfcut.proofs.pick.EntityPacker.pack_payload.Goals as goal

pub returns-in_err-take_header-in-Header-clause-stopped : goal.returns-in_err-take_header-in-Header-clause-stopped
returns-in_err-take_header-in-Header-clause-stopped g c =
    let p = err_from_is_err_and c.from_residual.result c.from_residual.ensures.1 in
    rw (p.1, p.2, c.in-Header.is) (record {
      cause = read_stops _ _ _ _ (λ fault e. c.in_err-take_header-in-Header.ensures.refused fault (ap Err e));
      front = inl refl;
    })
