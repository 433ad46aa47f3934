use Rattle.pbfcut_program.proofs.SeveralFileLemmas.{none_unmade}
use Rattle.pbfcut_program.proofs.several_files.make_outs.Goals as goal

pub returns-in_default-clause-err : goal.returns-in_default-clause-err
returns-in_default-clause-err g c = none_unmade c.args.placing.program c.args.outs.now (g.H.Host.log c.args.host.now)
