use Rattle.std.proofs.Common.{rules, ◌≡◌, w32, w64, to_z, of_z, to_z-of_z}
use Rattle.osm_entity.proofs.ScaleLemmas.{span_kept}
use Rattle.osm_entity.proofs.scale.Scale.lon_span.Goals as goal

pub returns : goal.returns
returns c =
    let scale = c.args.self.now in
    let offset : to_z w64 (of_z w64 scale.lon_offset) ≡ scale.lon_offset = search rules in
    let units : to_z w32 (of_z w32 scale.granularity) ≡ scale.granularity = search rules in
    span_kept c.stored_span.result scale.lon_offset scale.granularity c.args.left c.args.right _ _ _ _ offset units (to_z-of_z c.ranges.left) (to_z-of_z c.ranges.right) c.stored_span.ensures
