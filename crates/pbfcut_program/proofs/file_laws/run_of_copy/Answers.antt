use Rattle.std.proofs.Common.{ap, ◌∙◌}
use Rattle.pbfcut_cli.specs.declared.words.Command.TheVariants.{Pack, Unpack}
use Rattle.pbfcut_program.specs.Program.{manner_in}
use Rattle.pbfcut_program.proofs.GivingLemmas.{gives_copy}
use Rattle.pbfcut_program.proofs.RunLemmas.{pack_ran, unpack_ran}
use Rattle.pbfcut_program.proofs.file_laws.run_of_copy.Goals as goal

pub returns-clause-pack : goal.returns-clause-pack
returns-clause-pack c program words rows events disk file e =
    let x = pack_ran program rows events words disk file e in
    (x.files, x.reads, gives_copy (manner_in program (Pack x.files)) x.files events disk e.allowed file (ap disk x.reads.1.input ∙ e.there) x.writes)

pub returns-clause-unpack : goal.returns-clause-unpack
returns-clause-unpack c program words rows events disk file e =
    let x = unpack_ran program rows events words disk file e in
    (x.files, x.reads, gives_copy (manner_in program (Unpack x.files)) x.files events disk e.allowed file (ap disk x.reads.1.input ∙ e.there) x.writes)
