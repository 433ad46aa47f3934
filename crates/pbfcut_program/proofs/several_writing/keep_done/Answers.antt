use Rattle.std.proofs.Common.{inr, List, Err, subst}
use Rattle.pbfcut_program.specs.declared.several_files.OutPart.{OutPart}
use Rattle.pbfcut_program.specs.SeveralFiles.{KeepsEach}
use Rattle.pbfcut_program.proofs.several_writing.keep_done.Goals as goal

pub returns : goal.returns
returns g c =
    let log = g.H.Host.log in
    let lost = c.in-Err.lost in
    let placing = c.args.placing in
    let kept = subst (λ (parts : List OutPart). KeepsEach {X = Unit {0}} g.H.Out.Drain placing.program placing.overwrite (Err lost) parts c.args.made.outputs.items (log c.args.host.now) (log c.keep_outs.new.host)) c.as_slice-2.ensures.value c.in-Err.ensures in
    inr (lost, c.ending_of_file.ensures, kept)
