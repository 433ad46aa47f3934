use Rattle.std.proofs.Common.{◌≡◌, ap, ◌∙◌, rules}
use Rattle.pbf_wire.specs.Occurrence.{Content}
use Rattle.pbf_block.specs.Clean.{part_faults}
use Rattle.pbf_block.specs.declared.primitive_block.TheConstants.{PRIMITIVEGROUP}
use Rattle.pbf_block.proofs.PlainLemmas.{clean_group}
use Rattle.pbf_block.proofs.primitive_block.has_clean_group.Goals as goal

pub returns : goal.returns
returns c = λ clean.
    let field = c.args.field in
    let m = c.in-Some.message in
    let same : field.number ≡ PRIMITIVEGROUP = search rules in
    ap (λ (held : Content). part_faults c.args.limit (record { place = field.offset; number = field.number; content = held })) c.in-Some.ensures
    ∙ clean_group c.args.limit field.offset field.number m.at m.bytes.now same (c.has_clean_ways.ensures clean)
