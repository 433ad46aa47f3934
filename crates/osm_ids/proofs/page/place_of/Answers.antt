use Rattle.std.proofs.lemmas.Int.{ints}
use Rattle.std.proofs.Common.{◌≡◌, true, false, ◌-◌, int_lt, pos, ℤ, arith, rules}
use Rattle.std.specs.List.Sorted.{IsPartitionPoint}
use Rattle.std.proofs.lemmas.List.Sorted.{IsPartitionPoint-from_clause}
use Rattle.osm_ids.proofs.Places.{parted}
use Rattle.osm_ids.proofs.page.place_of.Goals as goal

pub returns : goal.returns
returns c =
    let ids = c.args.ids.now in
    let at = c.partition_point.result in
    let found = c.partition_point.ensures in
    let point : IsPartitionPoint (λ (z : ℤ). int_lt z c.args.id ≡ true) (λ (z : ℤ). int_lt z c.args.id ≡ false) ids at = IsPartitionPoint-from_clause (λ (z : ℤ). int_lt z c.args.id) _ _ found.partitioned (parted ids c.args.id c.requires) (λ a r q k. search rules) in
    record {
      within = found.bound;
      behind = λ some. grind (arith, ints, point.0 (at - 1) (pos 0) (omega arith) (omega (arith, some)));
      ahead = λ lt. grind (arith, ints, point.1 at (pos 0) (omega arith) lt);
    }
