use Rattle.std.proofs.Common.{inl}
use Rattle.pbfcut_program.proofs.FailLemmas.{caused_weaker}
use Rattle.pbfcut_program.proofs.engine.show_info.Goals as goal

pub returns-in-Err : goal.returns-in-Err
returns-in-Err g c =
    let halt = c.in-Err.halt in
    record {
      shown = tt;
      ends = (halt.stop, c.from.ensures, caused_weaker _ _ _ _ _ _ _ _ halt.stop (λ e to. to) (λ r. inl r) (λ w. w) (λ p n. absurd n) c.in-Err.ensures.stops);
    }
