-- Columns of metadata, and how they are taken over.
use Rattle.std.proofs.Common.{◌≡◌, ℕ, zero, suc, drop, true, false, ℤ, ◌+ℤ◌, List, [], ◌∷◌, refl, ap, rules, pos, ◌+◌, ◌-◌, ◌%◌, ◌^◌, ◌<◌, ◌≤◌, ltb, ◌++◌, map, take, sym, ap₂, ◌∙◌, arith, append_assoc, subst}
use Rattle.std.specs.List.{list_all, AllByRecursion}
use Rattle.pbf_wire.specs.Faults.{fields_in}
use Rattle.pbf_wire.specs.Occurrence.{found}
use Rattle.pbf_wire.proofs.Items.{items_none}
use Rattle.pbf_wire.specs.Signed.{is_within, IsWithin}
use Rattle.pbf_wire.specs.Sums.{sums_within, added}
use Rattle.std.proofs.Math.Seq.{take-add}
use Rattle.std.proofs.lemmas.Bool.Decides.{nat_tests}
use Rattle.std.proofs.lemmas.List.{map-append, drop-drop}
use Rattle.std.proofs.lemmas.Int.{ints}
use Rattle.pbf_wire.proofs.AllLemmas.{all_weaker}
use Rattle.pbf_wire.proofs.SumLemmas.{within_is}
use Rattle.pbf_dense.specs.InfoTaken.{written_version, TakesNumbers}

-- the sums that a limit lets through are all within it
pub sums_are_within : (limit start : ℤ) (ds : List ℤ) → list_all (is_within limit) (sums_within limit start ds) ≡ true
unfolding added
sums_are_within limit start [] = refl
sums_are_within limit start (d ∷ ds) =
    elim (is_within limit (start +ℤ d)) as (λ b. is_within limit (start +ℤ d) ≡ b → list_all (is_within limit) (sums_within limit start (d ∷ ds)) ≡ true)
    [ true ↦ λ e. rw (e, sums_within) (rw e (sums_are_within limit (start +ℤ d) ds)) | false ↦ λ e. rw (e, sums_within) refl ] refl

pub later_within : (limit z : ℤ) (zs : List ℤ) → list_all (is_within limit) (z ∷ zs) ≡ true → list_all (is_within limit) zs ≡ true
later_within limit z zs h = search rules

pub still_within : (limit : ℤ) (n : ℕ) (zs : List ℤ) → list_all (is_within limit) zs ≡ true → list_all (is_within limit) (drop n zs) ≡ true
still_within limit zero zs h = h
still_within limit (suc n) [] h = refl
still_within limit (suc n) (z ∷ zs) h = still_within limit n zs (later_within limit z zs h)

-- a message without bytes has no fields
pub no_fields : (at : ℕ) → fields_in at [] ≡ []
no_fields at = ap found (items_none at [] refl)

-- ---- numbers

pub both_taken : (written : ℕ → ℕ) (old middle new from between rest : List ℕ) (count some left : ℕ) → TakesNumbers written old middle from between count some → TakesNumbers written middle new between rest some left → TakesNumbers written old new from rest count left
both_taken written old middle new from between rest count some left h k = record { added = k.added ∙ h.added; passed = k.passed ∙ h.passed }

pub all_passed : (written : ℕ → ℕ) (old new from rest : List ℕ) (count left : ℕ) → TakesNumbers written old new from rest count left → left ≡ 0 → rest ≡ drop count from
all_passed written old new from rest count left h none =
    let d = subst (λ (n : ℕ). TakesNumbers written old new from rest count n) none h in d.passed

-- so many at once, which are written as they are
pub some_taken : (written : ℕ → ℕ) (old new from rest : List ℕ) (some count : ℕ) → some ≤ count → map written (take some from) ≡ take some from → new ≡ old ++ take some from → rest ≡ drop some from → TakesNumbers written old new from rest count (count - some)
some_taken written old new from rest some count few same e f =
    let more = count - some in
    let all : count ≡ some + more = omega (arith, few) in
    let parts : take count from ≡ take some from ++ take more (drop some from) = ap (λ (n : ℕ). take n from) all ∙ take-add some more from in
    record {
      added = ap₂ (λ (a b : List ℕ). a ++ map written (take more b)) e f
          ∙ append_assoc old (take some from) (map written (take more (drop some from)))
          ∙ ap (λ (w : List ℕ). old ++ (w ++ map written (take more (drop some from)))) (sym same)
          ∙ ap (λ (w : List ℕ). old ++ w) (sym (map-append written (take some from) (take more (drop some from))) ∙ ap (map written) (sym parts));
      passed = ap (drop more) f ∙ drop-drop more some from ∙ ap (λ (n : ℕ). drop n from) (sym all);
    }

-- ---- small versions are written as they are

small_same : (n : ℕ) → n < 128 → written_version n ≡ n
small_same n lt =
    let m : n % 2 ^ 32 ≡ n = omega arith in
    let e : ltb n (2 ^ 31) ≡ true = grind (arith, nat_tests) in
    rw (m, e) refl

pub all_same : (ns : List ℕ) → AllByRecursion (λ n. n < 128) ns → map written_version ns ≡ ns
all_same [] h = refl
all_same (n ∷ ns) h = ap₂ (λ (x : ℕ) (xs : List ℕ). x ∷ xs) (small_same n h.0) (all_same ns h.1)

-- ---- values in range

pub stored_all : (limit : ℤ) (zs : List ℤ) → list_all (is_within limit) zs ≡ true → AllByRecursion (IsWithin limit) zs
stored_all limit [] h = tt
stored_all limit (z ∷ zs) h = (within_is limit z (search rules), stored_all limit zs (search rules))

pub uids_stored : (zs : List ℤ) → list_all (is_within (pos (2 ^ 30))) zs ≡ true → AllByRecursion (IsWithin (pos (2 ^ 62))) zs
uids_stored zs h = all_weaker (IsWithin (pos (2 ^ 30))) _ (λ z w. record { above = omega (arith, ints, w.above); below = omega (arith, ints, w.below) }) zs (stored_all (pos (2 ^ 30)) zs h)
