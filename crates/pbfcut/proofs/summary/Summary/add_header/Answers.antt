use Rattle.std.proofs.Common.{Err, ap}
use Rattle.std.proofs.lemmas.Result.{err_from_is_err_and}
use Rattle.pbfcut.proofs.SummaryLemmas.{header_stops}
use Rattle.pbfcut.proofs.summary.Summary.add_header.Goals as goal

pub returns-in_err-header-clause-stops : goal.returns-in_err-header-clause-stops
returns-in_err-header-clause-stops c =
    let p = err_from_is_err_and c.from_residual.result c.from_residual.ensures.1 in
    rw (p.1, p.2, c.requires) (header_stops _ _ (λ fault e. (c.in_err-header.ensures.refused fault).0 (ap Err e)))
