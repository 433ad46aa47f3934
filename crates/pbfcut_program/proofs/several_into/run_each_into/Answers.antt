use Rattle.pbfcut.specs.EachReceipts.{each_strategy}
use Rattle.pbfcut_program.specs.Inputs.{feeds_in}
use Rattle.pbfcut_program.specs.Manner.{check_in}
use Rattle.pbfcut_program.proofs.SeveralIntoLemmas.{into_each}
use Rattle.pbfcut_program.proofs.several_into.run_each_into.Goals as goal

pub returns-else-engine : goal.returns-else-engine
returns-else-engine g c =
    let engine = c.args.engine in
    into_each engine.program engine.packs engine.digests (check_in engine c.args.seed.key) (each_strategy c.args.strategy) g.F.Feed g.D.Drain (feeds_in c.args.inputs.now) (feeds_in c.run_each_unhashed.new.inputs)
    c.args.outputs.items c.run_each_unhashed.result.0.items c.run_each_unhashed.result.1 c.if-engine.false c.run_each_unhashed.ensures
