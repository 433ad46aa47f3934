-- The ids of a page round one that is looked up.
use Rattle.std.proofs.Common.{◌≡◌, ℕ, ◌-◌, ◌<◌, ◌≤◌, Bool, true, false, List, length, get_or, ℤ, pos, ◌<ℤ◌, ◌≤ℤ◌, subst, arith}
use Rattle.std.specs.FinSet as set
use Rattle.std.specs.List.{list_any}
use Rattle.std.specs.Ordering.{int_eq}
use Rattle.std.proofs.lemmas.Bool.{cases_lt}
use Rattle.std.proofs.lemmas.List.{get_or-take, length-take}
use Rattle.std.proofs.lemmas.Int.{ints}
use Rattle.osm_ids.specs.declared.page.Known.{Known}
use Rattle.osm_ids.specs.declared.page.PageIds.{PageIds}
use Rattle.osm_ids.specs.Pages.{IsRising}
use Rattle.osm_ids.specs.Windows.{IsTruePage, IsTrueSpan, BeginsUpTo, IsPlaceAmong, IsRunOfIds, held, first_held}
use Rattle.osm_ids.proofs.Sets.{Ids}
use Rattle.osm_ids.proofs.Places.{at_most, any_between, all_between}

-- an id between two neighbours isn't there
none_at : (ids : List ℤ) (at : ℕ) (x : ℤ) → IsRising ids → at ≤ length ids → (0 < at → get_or ids (at - 1) (pos 0) <ℤ x) → (at < length ids → x <ℤ get_or ids at (pos 0)) → list_any (int_eq x) ids ≡ false
none_at ids at x h le low high =
    any_between ids at 0 x
    (λ i lt _.
    let up = at_most ids i (at - 1) (pos 0) h (omega (arith, lt)) (omega (arith, lt, le)) in
    let below = low (omega (arith, lt)) in
    omega (arith, ints, up, below))
    (λ i ge lt.
    let up = at_most ids at i (pos 0) h (omega (arith, ge)) lt in
    let above = high (omega (arith, ge, lt)) in
    omega (arith, ints, up, above))

first_is : (page : PageIds) → 0 < length (held page) → get_or (held page) 0 (pos 0) ≡ first_held page
first_is page some = get_or-take page.count page.ids 0 (pos 0) (omega (arith, some, length-take page.count page.ids))

-- the ids between two of a page, or after its last
pub gap_known : (ids : Ids) (page : PageIds) (at : ℕ) (top : ℤ) → IsTruePage ids page → 0 < at → at ≤ length (held page) → top ≤ℤ page.below → (at < length (held page) → top ≤ℤ get_or (held page) at (pos 0)) → (x : ℤ) → get_or (held page) (at - 1) (pos 0) <ℤ x → x <ℤ top → set.contains ids x ≡ false
gap_known ids page at top k some le below next x low high = grind (arith, ints, at_most (held page) 0 (at - 1) (pos 0) k.rising (omega arith) (omega (arith, some, le)), first_is page (omega (arith, some, le)), none_at (held page))

-- and those of a run
pub run_known : (ids : Ids) (page : PageIds) (at to : ℕ) → IsTruePage ids page → at ≤ to → to < length (held page) → IsRunOfIds (held page) at to → (x : ℤ) → get_or (held page) at (pos 0) ≤ℤ x → x ≤ℤ get_or (held page) to (pos 0) → set.contains ids x ≡ true
run_known ids page at to k high lt run x above below =
    let up = at_most (held page) at to (pos 0) k.rising high lt in
    k.inside x (all_between (held page) at to x (pos 0) k.rising high lt (omega (arith, ints, up, run, high)) above below)

-- ---- the place of an id that is not below the first

module _ (page : PageIds) (id seen : ℤ) (at : ℕ) (e : seen ≡ id) (b : BeginsUpTo page id) (q : IsPlaceAmong (held page) seen at) (other : at < length (held page) → get_or (held page) at (pos 0) ≡ id → ⊥) where
  p : IsPlaceAmong (held page) id at
  p = subst (λ z. IsPlaceAmong (held page) z at) e q

  apart : at < length (held page) → id <ℤ get_or (held page) at (pos 0)
  apart lt = grind (arith, ints, p.ahead lt, other lt)

  -- if another is there, one is before it
  pub some_before : 0 < length (held page) → 0 < at
  some_before some = grind (arith, cases_lt, apart, first_is)

  -- and the id isn't there
  pub not_there : list_any (int_eq id) (held page) ≡ false
  not_there = none_at (held page) at id b.rising p.within p.behind apart

-- ---- the ids between two numbers

pub told_known : (ids : Ids) (known : Known) (there : Bool) (above below above' below' : ℤ) → known ≡ record { span = record { above = above'; below = below' }; there = there } → above' ≡ above → below' ≡ below → ((x : ℤ) → above <ℤ x → x <ℤ below → set.contains ids x ≡ there) → IsTrueSpan ids known
told_known ids known there above below above' below' e low high known_is = grind arith
