use Rattle.std.proofs.Common.{◌∙◌}
use Rattle.pbf_header.proofs.HeaderLemmas.{has_among}
use Rattle.pbf_header.proofs.header_block.is_one_of.Goals as goal

pub returns : goal.returns
returns c = c.contains.ensures.value ∙ has_among c.args.text.now c.args.texts.now
