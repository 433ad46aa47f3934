use Rattle.pbfcut_program.proofs.FailLemmas.{caused_weaker}
use Rattle.pbfcut_program.proofs.engine.list_blobs.Goals as goal

pub returns-in-Err-list_blobs-clause-lists : goal.returns-in-Err-list_blobs-clause-lists
returns-in-Err-list_blobs-clause-lists g c =
    let halt = c.in-Err-list_blobs.halt in
    rw c.in-Pbfcutz.is (halt.stop, c.from-in-Err-list_blobs.ensures, caused_weaker _ _ _ _ _ _ _ _ halt.stop (λ e to. (to.frames, to.says)) (λ r. r) (λ w. w) (λ p n. n) c.in-Err-list_blobs.ensures.stops)
