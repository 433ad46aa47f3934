-- Numbers of one byte, many at once.
use Rattle.std.specs.Prelude.{◌≡◌, ◌<◌, ◌/◌, ◌%◌, ℕ, List, ◌++◌, length}
use Rattle.std.specs.List.{AllByRecursion, sum}

-- a number of one byte that means its half
abbrev pub IsHalved : ℕ → Type 0
IsHalved number = (number < 128) × (number % 2 ≡ 0)

-- sixteen of them, and the sum of what they mean
pub record AreRising (numbers : List ℕ) (rise : ℕ) : Type 0 where
  pub many : length numbers ≡ 16
  pub each : AllByRecursion IsHalved numbers
  pub all : rise ≡ sum numbers / 2

-- what is left of some bytes after bytes below 128: each of those is a number
pub record AreSingle (bytes rest : List ℕ) : Type 0 where
  pub front : List ℕ
  pub parts : bytes ≡ front ++ rest
  pub each : AllByRecursion (λ b. b < 128) front
