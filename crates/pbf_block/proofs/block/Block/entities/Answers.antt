use Rattle.std.proofs.Common.{◌∙◌}
use Rattle.pbf_block.specs.Kinds.{is_among}
use Rattle.pbf_block.specs.PrimitiveBlock.{entities}
use Rattle.pbf_block.proofs.KindLemmas.{filter_every}
use Rattle.pbf_block.proofs.block.Block.entities.Goals as goal

pub returns-clause-exact : goal.returns-clause-exact
returns-clause-exact c =
    let block = c.args.self.now in c.of.ensures ∙ (c.runs_among.ensures.exact ∙ filter_every (is_among c.all.result) c.all.ensures (entities block.at block.payload.now))
