use Rattle.std.proofs.Common.{ap, ◌∙◌}
use Rattle.pbfcut_cli.specs.declared.programs.Program.TheVariants.{Pbfcutz}
use Rattle.pbfcut_program.specs.Program.{digests_of, packs_of}
use Rattle.pbfcut_cli.specs.declared.words.Command.TheVariants.{ExtractEach}
use Rattle.pbfcut_program.specs.SeveralWrites.{strategy_with}
use Rattle.pbfcut_program.proofs.RunLemmas.{configured_ran}
use Rattle.pbfcut_program.proofs.SeveralGiving.{gives_each}
use Rattle.pbfcut_program.proofs.file_laws.run_of_extracts.Goals as goal

pub returns : goal.returns
returns c words rows events disk file given e =
    let x = configured_ran Pbfcutz rows events words disk file given e in
    let command = ExtractEach x.parents x.files in
    (x.parents, x.files, x.reads, gives_each (packs_of command) (digests_of command) (strategy_with x.parents) x.files events x.extracts disk e.allowed file (ap disk x.reads.2.input ∙ e.there))
