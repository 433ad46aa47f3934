-- The numbers between two others.
use Rattle.std.specs.Prelude.{◌≡◌, ◌≤◌, ◌<◌, ◌^◌, ℕ, ℤ, List, Bool, ◌&&◌, drop, int_lt, length, take}
use Rattle.std.specs.List.{AllByRecursion}
use Rattle.pbf_wire.specs.declared.span.Span.{Span}

-- whether a span has a number
abbrev pub is_in : Span → ℤ → Bool
is_in span number = int_lt span.above number && int_lt number span.below

-- a span has all these numbers, or none of them
abbrev pub AreAlike : Span → Bool → List ℤ → Type 0
AreAlike span is_there numbers = AllByRecursion (λ (number : ℤ). is_in span number ≡ is_there) numbers

-- so many values of a column are skipped, each of which a span has, or lacks; and it had few enough to be counted
pub record ArePassed (span : Span) (is_there : Bool) (old new : List ℤ) (count : ℕ) : Type 0 where
  pub passed : new ≡ drop count old
  pub alike : AreAlike span is_there (take count old)
  pub there : count ≤ length old
  pub few : length old < 2 ^ 64
