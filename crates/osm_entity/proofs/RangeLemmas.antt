-- Numbers that are in the ranges of their types.
use Rattle.std.proofs.Common.{◌≡◌, ◌≤◌, ◌^◌, ◌<◌, ◌%◌, ◌-◌, ℕ, ℤ, pos, negsuc, Bool, true, false, refl, arith}
use Rattle.std.specs.Prelude.{Option, None, Some, nat_lt, if◌then◌else◌}
use Rattle.std.proofs.lemmas.Int.{ints}
use Rattle.std.proofs.lemmas.Bool.{ltb-true, ltb-false}
use Rattle.pbf_wire.specs.Signed.{low_i32, low_i64}
use Rattle.pbf_wire.proofs.SlotLemmas.{IfSome}
use Rattle.osm_entity.specs.Ranges.{IfPresent, IsInt32, IsInt64}

-- what holds of a number that is present holds of what is there
pub present : (P : ℤ → Type 0) (z : Option ℤ) → IfPresent P z → IfSome P z
present P None h = tt
present P (Some z) h = h

-- ---- numbers in two's complement

int32_pos : (v : ℕ) → v < 2 ^ 31 → IsInt32 (pos v)
int32_pos v lt = (omega (arith, ints), omega (arith, ints))

int32_negative : (v : ℕ) → v < 2 ^ 32 → 2 ^ 31 ≤ v → IsInt32 (negsuc (2 ^ 32 - 1 - v))
int32_negative v lt le = let small : 2 ^ 32 - 1 - v < 2 ^ 31 = omega arith in (omega (arith, ints), omega (arith, ints))

pub int32_typed : (v : ℕ) → IsInt32 (low_i32 v)
int32_typed v = by (nat_lt (v % 2 ^ 32) (2 ^ 31)) refl where
  by : (b : Bool) → nat_lt (v % 2 ^ 32) (2 ^ 31) ≡ b → IsInt32 (if b then pos (v % 2 ^ 32) else negsuc (2 ^ 32 - 1 - v % 2 ^ 32))
  by true e = int32_pos (v % 2 ^ 32) (ltb-true (v % 2 ^ 32) (2 ^ 31) e)
  by false e = int32_negative (v % 2 ^ 32) (omega arith) (ltb-false (v % 2 ^ 32) (2 ^ 31) e)

int64_pos : (v : ℕ) → v < 2 ^ 63 → IsInt64 (pos v)
int64_pos v lt = (omega (arith, ints), omega (arith, ints))

int64_negative : (v : ℕ) → 2 ^ 63 ≤ v → IsInt64 (negsuc (2 ^ 64 - 1 - v))
int64_negative v le = let small : 2 ^ 64 - 1 - v < 2 ^ 63 = omega arith in (omega (arith, ints), omega (arith, ints))

pub int64_typed : (v : ℕ) → IsInt64 (low_i64 v)
int64_typed v = by (nat_lt v (2 ^ 63)) refl where
  by : (b : Bool) → nat_lt v (2 ^ 63) ≡ b → IsInt64 (if b then pos v else negsuc (2 ^ 64 - 1 - v))
  by true e = int64_pos v (ltb-true v (2 ^ 63) e)
  by false e = int64_negative v (ltb-false v (2 ^ 63) e)
