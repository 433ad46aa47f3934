use Rattle.std.proofs.Common.{arith}
use Rattle.pbf_block.specs.PrimitiveBlock.{entities}
use Rattle.pbf_pass.proofs.GatherLemmas.{gathered_among}
use Rattle.pbf_pass.proofs.pass.gather_entities.Goals as goal

pub returns : goal.returns
returns g c = grind (arith, c.in_ok-gather_runs.ensures, gathered_among g.G.Gather.gathered c.kinds.result c.kinds.ensures c.args.gathering.now (entities c.args.block.now.at c.args.block.now.payload.now))
