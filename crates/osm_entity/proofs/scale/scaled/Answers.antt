use Rattle.std.proofs.Common.{◌≤◌, ◌^◌, nat_abs, sym, subst}
use Rattle.osm_entity.proofs.ScaleLemmas.{product_kept, product_small}
use Rattle.osm_entity.proofs.scale.scaled.Goals as goal

pub returns-clause-small : goal.returns-clause-small
returns-clause-small c =
    let stored = c.ranges.stored in
    subst (λ z. nat_abs z ≤ 2 ^ 94)
    (sym (product_kept c.args.granularity c.args.stored c.from.result c.from-2.result c.ranges.granularity stored c.from.ensures c.from-2.ensures))
    (product_small c.args.granularity c.args.stored c.ranges.granularity stored)
