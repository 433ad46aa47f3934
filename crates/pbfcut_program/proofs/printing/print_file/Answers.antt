use Rattle.std.proofs.Common.{[], ◌∷◌}
use Rattle.std.proofs.lemmas.Result.{err_from_is_err_and}
use Rattle.osm_text.specs.Digests.{digest_line}
use Rattle.pbfcut_program.specs.Lines.{prints, unpacked_text}
use Rattle.pbfcut_program.proofs.FailLemmas.{tells_more}
use Rattle.pbfcut_program.proofs.Printed.{file_first}
use Rattle.pbfcut_program.proofs.printing.print_file.Goals as goal

pub returns-in_err-print_digest : goal.returns-in_err-print_digest
returns-in_err-print_digest g c =
    let p = err_from_is_err_and c.from_residual.result c.from_residual.ensures.1 in
    rw (p.1, p.2) (file_first c.in_err-print_digest.field-0.0 _ _ c.args.screen c.args.file.now.digest c.args.file.now.raw c.args.file.now.path.now c.in_err-print_digest.ensures)

pub returns-in-Some : goal.returns-in-Some
returns-in-Some g c = rw c.in-Some.is (tells_more _ _ _ (prints c.args.screen (digest_line c.args.file.now.digest c.args.file.now.path.now ∷ [])) (prints c.args.screen (unpacked_text c.in-Some.raw ∷ [])) c.print_unpacked.result c.in_ok-print_digest.ensures c.print_unpacked.ensures)

pub returns-in-None : goal.returns-in-None
returns-in-None g c = rw c.in-None.is c.in_ok-print_digest.ensures
