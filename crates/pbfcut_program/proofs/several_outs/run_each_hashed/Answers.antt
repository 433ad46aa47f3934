use Rattle.std.proofs.Common.{arith}
use Rattle.pbfcut.specs.EachReceipts.{each_strategy}
use Rattle.pbfcut.specs.Several.{KeepsOutput}
use Rattle.pbfcut.proofs.SeveralLemmas.{zip_length}
use Rattle.pbfcut_program.specs.Inputs.{feeds_in}
use Rattle.pbfcut_program.specs.Manner.{check_in, manner_of}
use Rattle.pbfcut_program.specs.SeveralOuts.{IsHashing}
use Rattle.pbfcut_program.proofs.SeveralOutLemmas.{hashed_each, hashing, none_done}
use Rattle.pbfcut_program.proofs.several_outs.run_each_hashed.Goals as goal

pub returns : goal.returns
returns g c =
    let engine = c.args.engine in
    let run = c.run_task_each-hashing in
    hashed_each (manner_of engine) (check_in engine c.args.seed.key) (each_strategy c.args.strategy) g.F.Feed g.D.Drain (feeds_in c.args.inputs.now) (feeds_in run.new.inputs)
    c.args.outputs.items c.put_hashers-hashing.result.items run.result.0.items c.take_hashers.result.items c.put_hashers-hashing.ensures c.take_hashers.ensures run.result.1 c.requires.digests run.ensures

pub returns-in_default : goal.returns-in_default
returns-in_default g c =
    let engine = c.args.engine in
    none_done (manner_of engine) (check_in engine c.args.seed.key) (each_strategy c.args.strategy) g.F.Feed g.D.Drain (feeds_in c.args.inputs.now) (feeds_in c.args.inputs.now) c.args.outputs.items c.from.result c.from.ensures

pub take_hashers-requires-clause-room : goal.take_hashers-requires-clause-room
take_hashers-requires-clause-room g c = omega (arith, c.in-Ok-Ok.ensures'.capacity, c.len-2.ensures, c.args.outputs.ok.0, zip_length IsHashing _ _ c.put_hashers-hashing.ensures, zip_length (KeepsOutput (hashing g.D.Drain)) _ _ c.run_task_each-hashing.ensures.outs)
