use Rattle.std.proofs.Common.{[], ◌∷◌}
use Rattle.std.proofs.lemmas.Result.{err_from_is_err_and}
use Rattle.pbfcut_program.specs.declared.host.Screen.TheVariants.{Output}
use Rattle.pbfcut_program.specs.Lines.{file_lines, known_lines, named_counts_text, prints}
use Rattle.pbfcut_program.proofs.FailLemmas.{printing_first, tells_more}
use Rattle.pbfcut_program.proofs.several_writing.print_out.Goals as goal

pub returns-in_err-print_named_counts : goal.returns-in_err-print_named_counts
returns-in_err-print_named_counts g c =
    let p = err_from_is_err_and c.from_residual.result c.from_residual.ensures.1 in
    let d = c.args.done.now in
    let output = c.args.output.now in
    rw (p.1, p.2) (printing_first c.in_err-print_named_counts.field-0.0 _ _ (prints Output (named_counts_text d.counts output ∷ [])) (prints Output (known_lines d.output d.meaning output)) c.in_err-print_named_counts.ensures)

pub returns-in-Some : goal.returns-in-Some
returns-in-Some g c =
    let d = c.args.done.now in
    let output = c.args.output.now in
    rw c.in-Some.is (tells_more _ _ _ (prints Output (named_counts_text d.counts output ∷ [])) (prints Output (file_lines c.in-Some.digest d.meaning output)) c.print_file.result c.in_ok-print_named_counts.ensures c.print_file.ensures)
