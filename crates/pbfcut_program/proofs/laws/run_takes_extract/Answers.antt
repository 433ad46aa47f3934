use Rattle.pbfcut_cli.specs.declared.words.Command.TheVariants.{Extract}
use Rattle.pbfcut_program.specs.Program.{manner_in}
use Rattle.pbfcut_program.proofs.RunLemmas.{run_extracts}
use Rattle.pbfcut_program.proofs.TakingLemmas.{extracts_take}
use Rattle.pbfcut_program.proofs.laws.run_takes_extract.Goals as goal

pub returns : goal.returns
returns c program words rows events file plain t s run given =
    let x = run_extracts program rows events words plain t s run in
    (x.cut, x.by, x.files, x.reads, extracts_take file (manner_in program (Extract x.cut x.by x.files)) x.cut x.by x.files events x.extracts given)
