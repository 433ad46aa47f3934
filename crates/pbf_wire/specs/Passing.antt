-- Values that are skipped without being given.
use Rattle.std.specs.Prelude.{◌≡◌, ◌+◌, ◌≤◌, ℕ, drop, length}
use Rattle.pbf_wire.specs.declared.sums.Sums.{Sums}
use Rattle.pbf_wire.specs.Cursors.{sums_left}

-- some of the first values are skipped, and then so many are left to be skipped of the count
pub record PassesSome (old new : Sums) (count left : ℕ) : Type 0 where
  pub passed : drop left (sums_left new) ≡ drop count (sums_left old)
  pub there : length (sums_left old) + left ≡ length (sums_left new) + count
  pub fewer : left ≤ count
