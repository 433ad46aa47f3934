use Rattle.std.proofs.Common.{arith}
use Rattle.pbfcut.specs.EachReceipts.{each_strategy}
use Rattle.pbfcut.proofs.SeveralLemmas.{zip_length}
use Rattle.pbfcut_program.specs.Inputs.{feeds_in}
use Rattle.pbfcut_program.specs.Manner.{check_in}
use Rattle.pbfcut_program.specs.SeveralOuts.{IsHashing}
use Rattle.pbfcut_program.proofs.SeveralIntoLemmas.{fresh_hashing, hashed_into_each, none_into, unhashed_hashing, unmeant_hashing}
use Rattle.pbfcut_program.proofs.several_into.run_each_out_hashed.Goals as goal

pub returns : goal.returns
returns g c =
    let engine = c.args.engine in
    let run = c.run_each_unhashed-hashing in
    hashed_into_each engine.program engine.packs engine.digests (check_in engine c.args.seed.key) (each_strategy c.args.strategy) g.F.Feed g.D.Drain (feeds_in c.args.inputs.now) (feeds_in run.new.inputs)
    c.args.outputs.items c.put_hashers-hashing.result.items run.result.0.items c.take_hashers.result.items c.put_hashers-hashing.ensures c.take_hashers.ensures run.result.1 c.requires.digests run.ensures

pub returns-in_default : goal.returns-in_default
returns-in_default g c =
    let engine = c.args.engine in
    none_into engine.program engine.packs engine.digests (check_in engine c.args.seed.key) (each_strategy c.args.strategy) g.F.Feed g.D.Drain (feeds_in c.args.inputs.now) c.from.result c.args.outputs.items c.from.ensures c.requires.fresh c.requires.unhashed

pub run_each_unhashed-hashing-requires-clause-fresh : goal.run_each_unhashed-hashing-requires-clause-fresh
run_each_unhashed-hashing-requires-clause-fresh g c = fresh_hashing g.D.Drain c.args.outputs.items c.put_hashers-hashing.result.items c.put_hashers-hashing.ensures c.requires.fresh

pub run_each_unhashed-hashing-requires-clause-unhashed : goal.run_each_unhashed-hashing-requires-clause-unhashed
run_each_unhashed-hashing-requires-clause-unhashed g c = unhashed_hashing g.D.Drain c.args.outputs.items c.put_hashers-hashing.result.items c.put_hashers-hashing.ensures c.requires.unhashed

pub run_each_unhashed-hashing-requires-clause-unmeant : goal.run_each_unhashed-hashing-requires-clause-unmeant
run_each_unhashed-hashing-requires-clause-unmeant g c = unmeant_hashing g.D.Drain c.args.outputs.items c.put_hashers-hashing.result.items c.put_hashers-hashing.ensures c.requires.unmeant

pub take_hashers-requires-clause-room : goal.take_hashers-requires-clause-room
take_hashers-requires-clause-room g c = omega (arith, c.in-Ok-Ok.ensures'.capacity, c.len-2.ensures, c.args.outputs.ok.0, zip_length IsHashing _ _ c.put_hashers-hashing.ensures, zip_length _ _ _ c.run_each_unhashed-hashing.ensures)
