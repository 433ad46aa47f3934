use Rattle.std.proofs.Common.{ℤ, map, ap₂, ◌∙◌, rules, w64}
use mir.Val.{SFits}
use Rattle.std.proofs.lemmas.Int.{to_z-of_z}
use Rattle.pbf_wire.specs.Cursors.{numbers_left, sums_left}
use Rattle.osm_box.specs.BoundingBox.{is_between}
use Rattle.osm_entity.specs.Sources.{low_32}
use Rattle.osm_entity.specs.Scale.{nano_lat, nano_lon}
use Rattle.pbf_dense.specs.Cursors.{dense_left, info_left}
use Rattle.pbf_dense.specs.Within.{ids_within_left}
use Rattle.pbf_dense.proofs.WithinLemmas.{within_are}
use Rattle.pbf_dense.proofs.dense.Dense.ids_within.Goals as goal

pub returns : goal.returns
unfolding dense_left ids_within_left
returns c =
    let dense = c.args.self.now in
    let area = c.args.area.now in
    let bottom : SFits w64 area.bottom = search rules in
    let top : SFits w64 area.top = search rules in
    let left : SFits w64 area.left = search rules in
    let right : SFits w64 area.right = search rules in
    let by_lat = λ (lat : ℤ). c.in_ok-lat_span.ensures lat ∙ ap₂ (λ low high. is_between low high (nano_lat dense.scale lat)) (to_z-of_z w64 area.bottom bottom) (to_z-of_z w64 area.top top) in
    let by_lon = λ (lon : ℤ). c.in_ok-lon_span.ensures lon ∙ ap₂ (λ low high. is_between low high (nano_lon dense.scale lon)) (to_z-of_z w64 area.left left) (to_z-of_z w64 area.right right) in
    within_are dense.table.now dense.scale (sums_left dense.ids) (sums_left dense.lats) (sums_left dense.lons) (info_left dense.info) (map low_32 (numbers_left dense.keys_vals)) area c.in_ok-lat_span.lat_span c.in_ok-lon_span.lon_span by_lat by_lon
