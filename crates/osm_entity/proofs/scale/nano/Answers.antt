use Rattle.std.proofs.Common.{◌+ℤ◌, ◌∙◌, ap}
use Rattle.osm_entity.proofs.ScaleLemmas.{product_told, total_kept}
use Rattle.osm_entity.proofs.scale.nano.Goals as goal

pub returns : goal.returns
returns c =
    total_kept c.args.offset c.from.result c.scaled.result c.ranges.offset c.from.ensures c.scaled.ensures.small
    ∙ ap (λ z. c.args.offset +ℤ z) (product_told c.args.granularity c.args.stored c.scaled.result c.ranges.granularity c.ranges.stored c.scaled.ensures.value)
