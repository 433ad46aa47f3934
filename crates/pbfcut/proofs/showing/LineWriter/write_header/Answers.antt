use Rattle.std.proofs.Common.{Err, ap, inl, refl, arith}
use Rattle.std.proofs.lemmas.Result.{err_from_is_err_and}
use Rattle.pbf_frame.proofs.Passed.{added_none}
use Rattle.pbfcut.proofs.ShowingLemmas.{read_stops}
use Rattle.pbfcut.proofs.showing.LineWriter.write_header.Goals as goal

pub returns-in_err-header : goal.returns-in_err-header
returns-in_err-header g c =
    let p = err_from_is_err_and c.from_residual.result c.from_residual.ensures.1 in
    rw (p.1, p.2) (record {
      shown = tt;
      stopped = record {
        cause = read_stops _ _ _ _ (λ fault e. (c.in_err-header.ensures.refused fault).0 (ap Err e));
        front = inl (added_none g.D.Drain c.args.drain.now);
      };
      keeps = record { counts = omega arith; lender = refl };
      same = refl;
    })
