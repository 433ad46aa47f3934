use Rattle.pbfcut.specs.EachReceipts.{each_strategy}
use Rattle.pbfcut_program.specs.Inputs.{feeds_in}
use Rattle.pbfcut_program.specs.Manner.{check_in}
use Rattle.pbfcut_program.proofs.SeveralIntoLemmas.{raw_each}
use Rattle.pbfcut_program.proofs.several_into.run_each_unhashed.Goals as goal

pub returns-else-gives_packed : goal.returns-else-gives_packed
returns-else-gives_packed g c =
    let engine = c.args.engine in
    raw_each engine.program engine.packs engine.digests (check_in engine c.args.seed.key) (each_strategy c.args.strategy) g.F.Feed g.D.Drain (feeds_in c.args.inputs.now) (feeds_in c.run_task_each.new.inputs)
    c.args.outputs.items c.run_task_each.result.0.items c.run_task_each.result.1 (c.gives_packed.ensures.raw c.if-gives_packed.false) c.requires.fresh c.requires.unhashed c.requires.unmeant c.run_task_each.ensures
