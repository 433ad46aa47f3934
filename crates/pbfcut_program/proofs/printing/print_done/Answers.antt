use Rattle.std.proofs.Common.{[], ◌∷◌, subst, sym}
use Rattle.std.proofs.lemmas.Result.{err_from_is_err_and}
use Rattle.pbfcut_program.specs.Lines.{counts_text, done_lines, file_lines, prints}
use Rattle.pbfcut_program.proofs.FailLemmas.{TellsSome, printing_first, printing_more, tells_more}
use Rattle.pbfcut_program.specs.Telling.{Tells}
use Rattle.pbfcut_program.proofs.Logging.{and_then}
use Rattle.pbfcut_program.proofs.Printed.{prints_both}
use Rattle.pbfcut_program.proofs.printing.print_done.Goals as goal

pub returns-in_err-print_counts : goal.returns-in_err-print_counts
returns-in_err-print_counts g c =
    let p = err_from_is_err_and c.from_residual.result c.from_residual.ensures.1 in
    let d = c.args.done.now in
    let lines = done_lines d.output d.meaning d.report.input d.report.raw c.args.files.now.input.now c.args.files.now.output.now in
    rw (p.1, p.2) (printing_first c.in_err-print_counts.field-0.0 _ _ (prints c.args.screen (counts_text d.report.counts ∷ [])) (prints c.args.screen lines) c.in_err-print_counts.ensures)

pub returns-in_err-print_file-in-Some : goal.returns-in_err-print_file-in-Some
returns-in_err-print_file-in-Some g c =
    let log = g.H.Host.log in
    let d = c.args.done.now in
    let files = c.args.files.now in
    let screen = c.args.screen in
    let lines = file_lines d.report.input d.report.raw files.input.now in
    let last = file_lines c.in-Some.digest d.meaning files.output.now in
    let how = c.in_err-print_file-in-Some.field-0.0 in
    let counts = prints screen (counts_text d.report.counts ∷ []) in
    let some = printing_more how (log c.args.host.now) (log c.print_counts.new.host) (log c.print_file.new.host) counts (prints screen lines) c.in_ok-print_counts.ensures c.in_err-print_file-in-Some.ensures in
    let more = printing_first how (log c.args.host.now) (log c.print_file.new.host) (prints screen (counts_text d.report.counts ∷ lines)) (prints screen last) some in
    let p = err_from_is_err_and c.from_residual-in_err-print_file-in-Some.result c.from_residual-in_err-print_file-in-Some.ensures.1 in
    rw (p.1, p.2, c.in-Some.is) (subst (λ es. TellsSome (log c.args.host.now) (log c.print_file.new.host) es how) (sym (prints_both screen (counts_text d.report.counts ∷ lines) last)) more)

pub returns-in_ok-print_file-in-Some : goal.returns-in_ok-print_file-in-Some
returns-in_ok-print_file-in-Some g c =
    let log = g.H.Host.log in
    let d = c.args.done.now in
    let files = c.args.files.now in
    let screen = c.args.screen in
    let lines = file_lines d.report.input d.report.raw files.input.now in
    let last = file_lines c.in-Some.digest d.meaning files.output.now in
    let both = and_then (log c.args.host.now) (log c.print_counts.new.host) (log c.print_file.new.host) (prints screen (counts_text d.report.counts ∷ [])) (prints screen lines) c.in_ok-print_counts.ensures c.in_ok-print_file-in-Some.ensures in
    rw c.in-Some.is (subst (λ es. Tells (log c.args.host.now) (log c.print_file-in-Some.new.host) es c.print_file-in-Some.result) (sym (prints_both screen (counts_text d.report.counts ∷ lines) last))
    (tells_more (log c.args.host.now) (log c.print_file.new.host) (log c.print_file-in-Some.new.host) (prints screen (counts_text d.report.counts ∷ lines)) (prints screen last) c.print_file-in-Some.result both c.print_file-in-Some.ensures))

pub returns-in-None : goal.returns-in-None
returns-in-None g c = rw c.in-None.is c.in_ok-print_counts.ensures
