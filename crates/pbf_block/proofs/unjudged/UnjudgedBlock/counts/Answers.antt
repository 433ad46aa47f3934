use Rattle.std.proofs.Common.{ap, ◌∙◌}
use Rattle.pbf_wire.specs.Faults.{fields_in}
use Rattle.pbf_block.specs.Numbers.{counts_of}
use Rattle.pbf_block.specs.Scale.{scale_of, stored_texts}
use Rattle.pbf_block.proofs.ByIndexLemmas.{ends_same}
use Rattle.pbf_block.proofs.unjudged.UnjudgedBlock.counts.Goals as goal

pub returns : goal.returns
returns c = λ sound.
    let block = c.args.self.now in
    let os = fields_in block.at block.payload.now in
    c.count_entities.ensures (stored_texts os) (scale_of os) ∙ ap counts_of (ends_same block.at block.payload.now sound)
