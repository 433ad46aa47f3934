use Rattle.std.proofs.lemmas.Result.{err_from_is_err_and}
use Rattle.pbf_frame.proofs.FrontLemmas.{gave_skipped}
use Rattle.pbf_frame.proofs.Refusing.{refused_other}
use Rattle.pbf_frame.proofs.frame_parts.read_blob.Goals as goal

pub returns-in_ok-skip-in-Other-clause-gave : goal.returns-in_ok-skip-in-Other-clause-gave
returns-in_ok-skip-in-Other-clause-gave g c = gave_skipped _ _ _ _ _ _ _ _ c.in-Other.is c.in_ok-skip-in-Other.ensures.skips c.clear.ensures.items

pub returns-in_err-skip-in-Other-clause-refused : goal.returns-in_err-skip-in-Other-clause-refused
returns-in_err-skip-in-Other-clause-refused g c =
    let p = err_from_is_err_and c.from_residual.result c.from_residual.ensures.1 in
    rw (p.1, p.2) (refused_other _ _ _ _ _ _ _ _ c.in-Other.is c.in_err-skip-in-Other.ensures.refused)
