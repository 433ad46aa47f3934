use Rattle.std.proofs.Common.{List, subst}
use Rattle.std.proofs.lemmas.Result.{err_from_is_err_and}
use Rattle.std.specs.List.{zip}
use Rattle.pbfcut_program.specs.declared.host.Screen.TheVariants.{Output}
use Rattle.pbfcut_program.specs.declared.several_writing.DoneOut.{DoneOut}
use Rattle.pbfcut_program.specs.Lines.{file_lines, prints}
use Rattle.pbfcut_program.specs.SeveralEnds.{outs_lines}
use Rattle.pbfcut_program.specs.Telling.{Tells}
use Rattle.pbfcut_program.proofs.SeveralPrinting.{lines_broken, lines_told}
use Rattle.pbfcut_program.proofs.several_writing.print_done_each.Goals as goal
use Rattle.pbfcut_program.proofs.several_writing.print_done_each.Goals.{then-engine+in_ok-print_file, else-engine}

pub returns-in_err-print_file : goal.returns-in_err-print_file
returns-in_err-print_file g c =
    let log = g.H.Host.log in
    let p = err_from_is_err_and c.from_residual.result c.from_residual.ensures.1 in
    let d = c.args.done.now in
    rw (p.1, p.2, c.if-engine.true) (lines_broken c.in_err-print_file.field-0.0 (file_lines d.input.input d.input.raw c.args.input.now) (outs_lines (zip c.args.outs.now d.outs.items)) (log c.args.host.now) (log c.print_file.new.host) c.in_err-print_file.ensures)

pub returns : goal.returns
returns g c =
    let log = g.H.Host.log in
    let d = c.args.done.now in
    let lines = outs_lines (zip c.args.outs.now d.outs.items) in
    let tells = subst (λ (dones : List DoneOut). Tells (log c.if-engine.host) (log c.print_outs.new.host) (prints Output (outs_lines (zip c.args.outs.now dones))) c.print_outs.result) c.as_slice.ensures.value c.print_outs.ensures in
    elim c.if-engine.branch [
      | then-engine+in_ok-print_file w ↦ rw w.if-engine.true (lines_told (file_lines d.input.input d.input.raw c.args.input.now) lines (log c.args.host.now) (log c.if-engine.host) (log c.print_outs.new.host) c.print_outs.result (rw w.host-is w.in_ok-print_file.ensures) tells)
      | else-engine w ↦ rw (w.if-engine.false, ← w.host-is) tells
    ]
