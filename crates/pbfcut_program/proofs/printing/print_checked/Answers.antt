use Rattle.std.proofs.Common.{[], ◌∷◌}
use Rattle.std.proofs.lemmas.Result.{err_from_is_err_and}
use Rattle.pbfcut_program.specs.declared.host.Screen.TheVariants.{Output}
use Rattle.pbfcut_program.specs.Lines.{check_lines, counts_text, file_lines, prints}
use Rattle.pbfcut_program.proofs.FailLemmas.{printing_first, tells_more}
use Rattle.pbfcut_program.proofs.printing.print_checked.Goals as goal

pub returns-in_err-print_counts : goal.returns-in_err-print_counts
returns-in_err-print_counts g c =
    let p = err_from_is_err_and c.from_residual.result c.from_residual.ensures.1 in
    let r = c.args.report.now in
    rw (p.1, p.2) (printing_first c.in_err-print_counts.field-0.0 _ _ (prints Output (counts_text r.counts ∷ [])) (prints Output (check_lines c.args.engine.digests r.input r.raw c.args.input.now)) c.in_err-print_counts.ensures)

pub returns-then-engine : goal.returns-then-engine
returns-then-engine g c =
    let r = c.args.report.now in
    rw c.if-engine.true (tells_more _ _ _ (prints Output (counts_text r.counts ∷ [])) (prints Output (file_lines r.input r.raw c.args.input.now)) c.print_file.result c.in_ok-print_counts.ensures c.print_file.ensures)
