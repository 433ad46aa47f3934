use Rattle.std.proofs.Common.{◌≡◌, to_z, of_z, rules}
use Rattle.std.specs.Int.{int_min, int_max, w64}
use Rattle.osm_polygon.proofs.groups.join.Goals as goal

pub returns : goal.returns
returns c =
    let a = c.args.area in
    let b = c.args.other in
    let left : to_z w64 (of_z w64 c.min.result) ≡ int_min a.left b.left = search rules in
    let bottom : to_z w64 (of_z w64 c.min-2.result) ≡ int_min a.bottom b.bottom = search rules in
    let right : to_z w64 (of_z w64 c.max.result) ≡ int_max a.right b.right = search rules in
    let top : to_z w64 (of_z w64 c.max-2.result) ≡ int_max a.top b.top = search rules in
    λ i. record { left = left i; bottom = bottom i; right = right i; top = top i }
