-- Signed numbers as varints hold them.
use Rattle.std.specs.Prelude.{ℕ, ℤ, pos, negsuc, Bool, ◌&&◌, ◌+◌, ◌*◌, ◌/◌, ◌%◌, ◌^◌, ◌==◌, ◌<◌, ◌<ℤ◌, int_lt, neg_ℤ, ◌-◌, nat_lt, if◌then◌else◌}

-- in order of size: 0, -1, 1, -2, ..
abbrev pub zigzag : ℤ → ℕ
zigzag (pos n) = 2 * n
zigzag (negsuc n) = 2 * n + 1

abbrev pub unzigzag : ℕ → ℤ
unzigzag v = if v % 2 == 0 then pos (v / 2) else negsuc (v / 2)

-- zigzag in 32 bits, of the low 32 bits
abbrev pub low_sint32 : ℕ → ℤ
low_sint32 v = unzigzag (v % 2 ^ 32)

-- an entry of a delta column: all 64 bits of the number, or its low 32 bits
abbrev pub delta_in : Bool → ℕ → ℤ
delta_in narrow number = if narrow then low_sint32 number else unzigzag number

-- a number of at most five bytes, or three if it is narrow
abbrev pub IsNear : Bool → ℕ → Type 0
IsNear narrow number = number < (if narrow then 2 ^ 21 else 2 ^ 35)

-- two's complement in 32 bits, of the low 32 bits
abbrev pub low_i32 : ℕ → ℤ
low_i32 v = if nat_lt (v % 2 ^ 32) (2 ^ 31) then pos (v % 2 ^ 32) else negsuc (2 ^ 32 - 1 - v % 2 ^ 32)

-- two's complement in 64 bits
abbrev pub low_i64 : ℕ → ℤ
low_i64 v = if nat_lt v (2 ^ 63) then pos v else negsuc (2 ^ 64 - 1 - v)

-- the 64 bits of a signed number, with the sign in all bits above it
abbrev pub sign_extended : ℤ → ℕ
sign_extended (pos n) = n
sign_extended (negsuc n) = 2 ^ 64 - 1 - n

-- strictly between -limit and limit
pub record IsWithin (limit number : ℤ) : Type 0 where
  pub above : neg_ℤ limit <ℤ number
  pub below : number <ℤ limit

-- the same, as a test
abbrev pub is_within : ℤ → ℤ → Bool
is_within limit number = int_lt (neg_ℤ limit) number && int_lt number limit
