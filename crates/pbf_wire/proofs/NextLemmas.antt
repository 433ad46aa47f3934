-- The next values of a delta column.
use Rattle.std.proofs.Common.{◌≡◌, Bool, true, false, true≢false, ℕ, zero, suc, ◌^◌, ◌<◌, ℤ, pos, ◌+ℤ◌, List, ◌∷◌, ◌++◌, replicate, map, refl, ap, subst, sym, ◌∙◌, arith}
use Rattle.std.specs.Prelude.{IsTrue}
use Rattle.std.proofs.lemmas.Int.{ints}
use Rattle.pbf_wire.specs.declared.column.Column.{Column}
use Rattle.pbf_wire.specs.declared.sums.Sums.{Sums}
use Rattle.pbf_wire.specs.Cursors.{numbers_left, sums_left}
use Rattle.pbf_wire.specs.Signed.{delta_in, unzigzag, IsNear, IsWithin}
use Rattle.pbf_wire.specs.Sums.{sums_within}
use Rattle.pbf_wire.proofs.SumLemmas.{added_within, then_more}

-- ---- near numbers

pub short_near : (narrow : Bool) (number : ℕ) → number < 2 ^ 21 → IsNear narrow number
short_near false number small = omega (arith, small)
short_near true number small = small

pub far_near : (narrow : Bool) (number : ℕ) → narrow ≡ false → number < 2 ^ 35 → IsNear narrow number
far_near false number wide small = small
far_near true number wide small = absurd (true≢false wide)

-- all bits of a near number count
pub delta_near : (narrow near : Bool) (number : ℕ) → (IsTrue narrow → IsTrue near) → IsNear near number → delta_in narrow number ≡ unzigzag number
delta_near narrow near number only small = grind arith

-- ---- as they are stored

-- ---- values

pub value_after : (limit total : ℤ) (narrow : Bool) (number : ℕ) (more : List ℕ) → IsNear true number → IsWithin limit (total +ℤ unzigzag number)
    → sums_within limit total (map (delta_in narrow) (number ∷ more)) ≡ (total +ℤ unzigzag number) ∷ sums_within limit (total +ℤ unzigzag number) (map (delta_in narrow) more)
value_after limit total narrow number more small within = grind (arith, delta_near, then_more, added_within)

-- ---- of cursors

-- an entry gives the sum
entry_gives : (sums : Sums) (entries : Column) (near : Bool) (number : ℕ) (total : ℤ) → (IsTrue sums.narrow → IsTrue near) → IsNear near number → numbers_left sums.entries ≡ number ∷ numbers_left entries → total ≡ sums.total +ℤ unzigzag number → IsWithin sums.limit total
    → sums_left sums ≡ total ∷ sums_within sums.limit total (map (delta_in sums.narrow) (numbers_left entries))
entry_gives sums entries near number total only small numbers is within = grind (arith, delta_near, then_more, added_within)

pub next_is : (old new : Sums) (entries : Column) (near : Bool) (number : ℕ) → (IsTrue old.narrow → IsTrue near) → IsNear near number → numbers_left old.entries ≡ number ∷ numbers_left entries
    → new.total ≡ old.total +ℤ unzigzag number → new.entries ≡ entries → new.limit ≡ old.limit → new.narrow ≡ old.narrow → sums_left old ≡ new.total ∷ sums_left new
next_is old new entries near number only small numbers total_is entries_are limit_is narrow_is =
    let within : IsWithin old.limit new.total = subst (λ z. IsWithin z new.total) limit_is new.within in
    rw (entries_are, limit_is, narrow_is) (entry_gives old entries near number new.total only small numbers total_is within)

-- an entry 0 gives the last value again
module _ (limit total : ℤ) (narrow : Bool) (within : IsWithin limit total) where
  abbrev pub values : List ℕ → List ℤ
  values ns = sums_within limit total (map (delta_in narrow) ns)

  pub once_more : (ns : List ℕ) → values (0 ∷ ns) ≡ total ∷ values ns
  once_more ns =
      let still : total +ℤ pos 0 ≡ total = omega (arith, ints) in
      value_after limit total narrow 0 ns (omega arith) (subst (IsWithin limit) (sym still) within) ∙ ap (λ (t : ℤ). t ∷ sums_within limit t (map (delta_in narrow) ns)) still

  pub repeated : (n : ℕ) (ns : List ℕ) → values (replicate n 0 ++ ns) ≡ replicate n total ++ values ns
  repeated zero ns = refl
  repeated (suc n) ns = once_more (replicate n 0 ++ ns) ∙ ap (λ (zs : List ℤ). total ∷ zs) (repeated n ns)
