use Rattle.std.proofs.Common.{ap, ◌∙◌}
use Rattle.pbfcut_cli.specs.declared.words.Command.TheVariants.{Extract}
use Rattle.pbfcut_program.specs.Program.{manner_in}
use Rattle.pbfcut_program.proofs.GivingLemmas.{gives_extract}
use Rattle.pbfcut_program.proofs.RunLemmas.{extract_ran}
use Rattle.pbfcut_program.proofs.file_laws.run_of_extract.Goals as goal

pub returns : goal.returns
returns c program words rows events disk file plain e =
    let x = extract_ran program rows events words disk file plain e in
    (x.cut, x.by, x.files, x.reads, gives_extract (manner_in program (Extract x.cut x.by x.files)) x.cut x.by x.files events x.extracts disk e.allowed file (ap disk x.reads.5.input ∙ e.there))
