use Rattle.std.proofs.Common.{◌≡◌, ◌≤◌, ◌+◌, ◌-◌, ◌*◌, ◌^◌, ◌%◌, arith}
use Rattle.std.proofs.lemmas.Nat.{shl_whole}
use Rattle.osm_polygon.proofs.strips.parts_at.Goals as goal

pub returns : goal.returns
returns c =
    let strip = c.args.strip in
    let depth = strip.shift - c.args.finer in
    let fits : 40 + depth ≤ 64 = omega (arith, c.requires.width) in
    let first : strip.first * 2 ^ depth % 2 ^ 64 ≡ strip.first * 2 ^ depth = shl_whole strip.first 40 depth 64 (omega (arith, c.requires.some, c.requires.small)) fits in
    let end : strip.end * 2 ^ depth % 2 ^ 64 ≡ strip.end * 2 ^ depth = shl_whole strip.end 40 depth 64 (omega (arith, c.requires.small)) fits in
    λ i. record { axis = strip.axis; shift = c.args.finer; first = first i; end = end i }
