use Rattle.std.proofs.Common.{arith}
use Rattle.pbfcut.specs.EachReceipts.{each_strategy}
use Rattle.pbfcut.proofs.SeveralLemmas.{zip_length}
use Rattle.pbfcut_program.specs.Inputs.{feeds_in}
use Rattle.pbfcut_program.specs.Manner.{check_in, manner_of}
use Rattle.pbfcut_program.specs.SeveralOuts.{IsPackingOver}
use Rattle.pbfcut_program.proofs.SeveralPackLemmas.{none_unhashed, packed_manner, unhashed_packing}
use Rattle.pbfcut_program.proofs.several_packed.run_each_packed.Goals as goal

pub returns : goal.returns
returns g c =
    let engine = c.args.engine in
    let run = c.run_each_raw-packing in
    packed_manner engine.program engine.packs engine.digests (check_in engine c.args.seed.key) (each_strategy c.args.strategy) g.F.Feed g.D.Drain (feeds_in c.args.inputs.now) (feeds_in run.new.inputs)
    c.args.outputs.items c.put_packers-packing.result.items run.result.0.items c.take_packers.result.0.items run.result.1 c.take_packers.result.1 c.requires.packs.0 c.requires.packs.1 c.requires.fresh c.put_packers-packing.ensures run.ensures c.take_packers.ensures

pub returns-in_default : goal.returns-in_default
returns-in_default g c =
    let engine = c.args.engine in
    none_unhashed (manner_of engine) (check_in engine c.args.seed.key) (each_strategy c.args.strategy) g.F.Feed g.D.Drain (feeds_in c.args.inputs.now) c.from.result c.from.ensures c.args.outputs.items c.requires.fresh c.requires.unhashed

pub run_each_raw-packing-requires-clause-unhashed : goal.run_each_raw-packing-requires-clause-unhashed
run_each_raw-packing-requires-clause-unhashed g c = unhashed_packing c.args.outputs.items c.put_packers-packing.result.items c.put_packers-packing.ensures c.requires.unhashed

pub take_packers-requires-clause-room : goal.take_packers-requires-clause-room
take_packers-requires-clause-room g c = omega (arith, c.in-Ok-Ok-Ok.ensures''.capacity, c.len-3.ensures, c.args.outputs.ok.0, zip_length IsPackingOver _ _ c.put_packers-packing.ensures, zip_length _ _ _ c.run_each_raw-packing.ensures)
