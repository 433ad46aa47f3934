use Rattle.pbfcut.specs.EachReceipts.{each_strategy}
use Rattle.pbfcut_program.specs.Inputs.{feeds_in}
use Rattle.pbfcut_program.specs.Manner.{check_in, manner_of}
use Rattle.pbfcut_program.proofs.SeveralOutLemmas.{as_they_are}
use Rattle.pbfcut_program.proofs.several_outs.run_each_raw.Goals as goal

pub returns-else-engine : goal.returns-else-engine
returns-else-engine g c =
    let engine = c.args.engine in
    as_they_are (manner_of engine) (check_in engine c.args.seed.key) (each_strategy c.args.strategy) g.F.Feed g.D.Drain (feeds_in c.args.inputs.now) (feeds_in c.run_task_each.new.inputs)
    c.args.outputs.items c.run_task_each.result.0.items c.run_task_each.result.1 c.if-engine.false c.requires.unhashed c.run_task_each.ensures
