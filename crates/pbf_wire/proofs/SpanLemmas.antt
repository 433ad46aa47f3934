-- Values that are skipped one after another.
use Rattle.std.proofs.Common.{◌≡◌, ◌<◌, ◌≤◌, ◌^◌, Bool, true, false, not, ℕ, zero, suc, ℤ, List, [], ◌∷◌, length, None, Some, ap, rules, arith, ◌<ℤ◌, ◌≤ℤ◌}
use Rattle.std.proofs.Math.Seq.{drop-nil}
use Rattle.std.proofs.lemmas.Int.{ints}
use Rattle.std.proofs.lemmas.List.{length-map}
use Rattle.std.specs.Bool.{beq}
use Rattle.pbf_wire.specs.Cursors.{column_left, sums_left}
use Rattle.pbf_wire.specs.Spans.{is_in, ArePassed}
use Rattle.pbf_wire.specs.Sums.{added, sums_within}
use Rattle.pbf_wire.specs.declared.span.Span.{Span}
use Rattle.pbf_wire.specs.declared.sums.Sums.{Sums}
use Rattle.pbf_wire.proofs.SumLemmas.{then_more}

pub one_past : (span : Span) (is_there : Bool) (values left : List ℤ) (value : ℤ) (n : ℕ) → ArePassed span is_there values (value ∷ left) n → is_in span value ≡ is_there
    → ArePassed span is_there values left (suc n)
one_past span is_there [] left value n past there = absurd (omega (arith, ap length past.passed, ap length (drop-nil {A = ℤ} n)))
one_past span is_there (v ∷ vs) left value zero past there = search rules
one_past span is_there (v ∷ vs) left value (suc n) past there =
    let more = one_past span is_there vs left value n (record { passed = past.passed; alike = past.alike.1; there = omega (arith, past.there); few = omega (arith, past.few) }) there in
    record { passed = more.passed; alike = (past.alike.0, more.alike); there = omega (arith, more.there); few = past.few }

pub same_test : (a b : Bool) → not (beq a b) ≡ false → a ≡ b
same_test a b e = grind arith

pub in_span : (span : Span) (n : ℤ) → is_in span n ≡ true → (span.above <ℤ n) × (n <ℤ span.below)
in_span span n h = (search rules, search rules)

pub span_has : (span : Span) (n : ℤ) → span.above <ℤ n → n <ℤ span.below → is_in span n ≡ true
span_has span n above below = search (rules, above, below)

-- what a span has, one that reaches further has too
pub wider_has : (span wider : Span) (n : ℤ) → wider.above ≤ℤ span.above → span.below ≤ℤ wider.below → is_in span n ≡ true → is_in wider n ≡ true
wider_has span wider n above below h = grind (arith, in_span, span_has, ints)

-- ---- how many there are

pub sums_fit : (limit start : ℤ) (ds : List ℤ) → length (sums_within limit start ds) ≤ length ds
sums_fit limit start [] = omega arith
sums_fit limit start (d ∷ ds) =
    elim (added limit start d) as (λ r. length (then_more limit ds r) ≤ suc (length ds)) [
      | None ↦ omega arith
      | Some sum ↦ omega (arith, sums_fit limit sum ds)
    ]

-- no more than the column has numbers
pub values_fit : (values : Sums) → length (column_left values.entries) < 2 ^ 64 → length (sums_left values) < 2 ^ 64
values_fit values h = grind (arith, sums_fit, length-map)
