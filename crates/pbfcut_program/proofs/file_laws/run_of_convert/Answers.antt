use Rattle.std.proofs.Common.{ap, ◌∙◌}
use Rattle.pbfcut_cli.specs.declared.words.Command.TheVariants.{Convert}
use Rattle.pbfcut_program.specs.Program.{manner_in}
use Rattle.pbfcut_program.proofs.GivingLemmas.{gives_conversion}
use Rattle.pbfcut_program.proofs.RunLemmas.{convert_ran}
use Rattle.pbfcut_program.proofs.file_laws.run_of_convert.Goals as goal

pub returns : goal.returns
returns c program words rows events disk file e =
    let x = convert_ran program rows events words disk file e in
    (x.files, x.reads, gives_conversion (manner_in program (Convert x.files)) x.files events disk e.allowed file (ap disk x.reads.1.input ∙ e.there) x.writes)
