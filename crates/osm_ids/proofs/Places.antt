-- Rising ids by their places, and the ids between them.
use Rattle.std.proofs.Common.{◌≡◌, ℕ, zero, suc, ◌+◌, ◌-◌, ◌<◌, ◌≤◌, true, List, [], ◌∷◌, ◌++◌, length, take, drop, get_or, ℤ, pos, ◌+ℤ◌, ◌<ℤ◌, ◌≤ℤ◌, int_lt, refl, sym, ap, subst, ◌∙◌, arith, take-append-drop, true≢false}
use Rattle.std.specs.List.{list_any}
use Rattle.std.specs.List.Sorted.{IsPartitionedBy}
use Rattle.std.specs.Ordering.{int_eq}
use Rattle.std.proofs.lemmas.Bool.{or_right, or_cases}
use Rattle.std.proofs.lemmas.List.{take_all}
use Rattle.std.proofs.lemmas.List.Folds.{list_any-append}
use Rattle.std.proofs.lemmas.Int.{ints}
use Rattle.std.proofs.Math.Seq.{drop-nil, take-nil}
use Rattle.pbf_wire.specs.Packed.{last_from}
use Rattle.osm_ids.specs.Pages.{Rises, IsRising}
use Rattle.osm_ids.proofs.Rising.{other_above, other_below, rising_tail, first_among}

-- ids that rise are each one or more above the one before
far_after : (low : ℤ) (ids : List ℤ) (j : ℕ) (d : ℤ) → Rises low ids → j < length ids → (low +ℤ pos (suc j)) ≤ℤ get_or ids j d
far_after low [] j d h lt = absurd (omega arith)
far_after low (x ∷ ids) zero d h lt = let up = h.0 in omega (arith, ints)
far_after low (x ∷ ids) (suc j) d h lt = grind (arith, far_after x ids j d h.1 (omega arith))

pub far : (ids : List ℤ) (i j : ℕ) (d : ℤ) → IsRising ids → i ≤ j → j < length ids → (get_or ids i d +ℤ pos (j - i)) ≤ℤ get_or ids j d
far [] i j d h le lt = absurd (omega arith)
far (x ∷ ids) zero zero d h le lt = omega (arith, ints)
far (x ∷ ids) zero (suc j) d h le lt = let up = far_after x ids j d h (omega arith) in omega (arith, ints, up)
far (x ∷ ids) (suc i) zero d h le lt = absurd (omega arith)
far (x ∷ ids) (suc i) (suc j) d h le lt = grind (arith, far ids i j d (rising_tail x ids h) (omega arith) (omega arith), rising_tail x ids h)

pub at_most : (ids : List ℤ) (i j : ℕ) (d : ℤ) → IsRising ids → i ≤ j → j < length ids → get_or ids i d ≤ℤ get_or ids j d
at_most ids i j d h le lt = let up = far ids i j d h le lt in omega (arith, ints, up)

-- so they can be searched by halves
pub parted : (ids : List ℤ) (id : ℤ) → IsRising ids → IsPartitionedBy (λ (z : ℤ). int_lt z id) ids
parted ids id h = λ i j d le lt yes. grind (arith, ints, at_most ids i j d h le lt, yes)

-- an id that lies between places can only be an id between them
pub any_between : (ids : List ℤ) (at n : ℕ) (x : ℤ) → ((i : ℕ) → i < at → i < length ids → get_or ids i (pos 0) <ℤ x) → ((i : ℕ) → at + n ≤ i → i < length ids → x <ℤ get_or ids i (pos 0)) → list_any (int_eq x) ids ≡ list_any (int_eq x) (take n (drop at ids))
any_between [] at n x low high = ap (list_any (int_eq x)) (sym (ap (take n) (drop-nil at) ∙ take-nil n))
any_between (y ∷ ids) (suc at) n x low high = grind (arith, other_below x y (low 0 (omega arith) (omega arith)), any_between ids at n x (λ i lt le. low (suc i) (omega arith) (omega arith)) (λ i ge lt. high (suc i) (omega arith) (omega arith)))
any_between (y ∷ ids) zero zero x low high = grind (arith, other_above x y (high 0 (omega arith) (omega arith)), high 0 (omega arith) (omega arith), any_between ids 0 0 x (λ i lt le. absurd (omega (arith, lt))) (λ i ge lt. high (suc i) (omega arith) (omega arith)))
any_between (y ∷ ids) zero (suc n) x low high = grind (arith, any_between ids 0 n x (λ i lt le. absurd (omega (arith, lt))) (λ i ge lt. high (suc i) (omega arith) (omega arith)))

-- and if there are as many places as numbers, each is
pub all_between : (ids : List ℤ) (i j : ℕ) (x d : ℤ) → IsRising ids → i ≤ j → j < length ids → get_or ids j d ≤ℤ (get_or ids i d +ℤ pos (j - i)) → get_or ids i d ≤ℤ x → x ≤ℤ get_or ids j d → list_any (int_eq x) ids ≡ true
all_between [] i j x d h le lt near low high = absurd (omega arith)
all_between (y ∷ ids) (suc i) zero x d h le lt near low high = absurd (omega arith)
all_between (y ∷ ids) (suc i) (suc j) x d h le lt near low high = grind (arith, or_right (int_eq x y) (list_any (int_eq x) ids), all_between ids i j x d (rising_tail y ids h), rising_tail y ids h)
all_between (y ∷ ids) zero zero x d h le lt near low high = grind (arith, first_among x ids)
all_between (y ∷ ids) zero (suc j) x d h le lt near low high =
    let first = far_after y ids 0 d h (omega arith) in
    let last = far ids 0 j d (rising_tail y ids h) (omega arith) (omega arith) in
    grind (arith, ints, first, last, all_between ids 0 j x d (rising_tail y ids h) (omega arith) (omega arith))

-- a list with an id isn't empty
pub some_of : (ids : List ℤ) (x : ℤ) → list_any (int_eq x) ids ≡ true → 0 < length ids
some_of [] x there = absurd (true≢false (sym there))
some_of (y ∷ ids) x there = omega arith

-- an id at a place
pub any_at : (ids : List ℤ) (i : ℕ) → i < length ids → list_any (int_eq (get_or ids i (pos 0))) ids ≡ true
any_at [] i lt = absurd (omega arith)
any_at (x ∷ ids) zero lt = first_among x ids
any_at (x ∷ ids) (suc i) lt = or_right (int_eq (get_or ids i (pos 0)) x) (list_any (int_eq (get_or ids i (pos 0))) ids) (any_at ids i (omega arith))

-- each id is no greater than what the ids at all places are no greater than
pub any_up : (ids : List ℤ) (x top : ℤ) → ((i : ℕ) → i < length ids → get_or ids i (pos 0) ≤ℤ top) → list_any (int_eq x) ids ≡ true → x ≤ℤ top
any_up [] x top up there = absurd (true≢false (sym there))
any_up (y ∷ ids) x top up there = grind (arith, or_cases (int_eq x y) (list_any (int_eq x) ids) there, up 0 (omega arith), any_up ids x top (λ i lt. up (suc i) (omega arith)))

-- a part has no other ids
pub any_part : (ids : List ℤ) (at n : ℕ) (x : ℤ) → list_any (int_eq x) (take n (drop at ids)) ≡ true → list_any (int_eq x) ids ≡ true
any_part ids at n x there = grind (arith, take-append-drop n (drop at ids), list_any-append (int_eq x) (take n (drop at ids)) (drop n (drop at ids)), take-append-drop, list_any-append (int_eq x) (take at ids) (drop at ids))

pub rises_take : (low : ℤ) (n : ℕ) (ids : List ℤ) → Rises low ids → Rises low (take n ids)
rises_take low zero ids h = tt
rises_take low (suc n) [] h = tt
rises_take low (suc n) (x ∷ ids) h = (h.0, rises_take x n ids h.1)

-- and rises
pub rising_part : (ids : List ℤ) (at n : ℕ) → IsRising ids → IsRising (take n (drop at ids))
rising_part ids zero zero h = tt
rising_part [] zero (suc n) h = tt
rising_part (x ∷ ids) zero (suc n) h = rises_take x n ids h
rising_part [] (suc at) n h = subst IsRising (sym (take-nil n)) tt
rising_part (x ∷ ids) (suc at) n h = rising_part ids at n (rising_tail x ids h)

-- ---- the last

pub last_push : (d : ℤ) (ids : List ℤ) (id : ℤ) → last_from d (ids ++ id ∷ []) ≡ id
last_push d [] id = refl
last_push d (x ∷ ids) id = last_push x ids id

last_by : (d : ℤ) (ids : List ℤ) (n : ℕ) → n < length ids → last_from d (take (suc n) ids) ≡ get_or ids n (pos 0)
last_by d [] n lt = absurd (omega arith)
last_by d (x ∷ ids) zero lt = refl
last_by d (x ∷ ids) (suc n) lt = last_by x ids n (omega arith)

-- the last of the first ids, by its place
pub last_at : (ids : List ℤ) (n : ℕ) → 0 < n → n ≤ length ids → last_from (pos 0) (take n ids) ≡ get_or ids (n - 1) (pos 0)
last_at ids n some le = grind (arith, last_by)

pub last_is : (ids : List ℤ) → 0 < length ids → last_from (pos 0) ids ≡ get_or ids (length ids - 1) (pos 0)
last_is ids some = ap (last_from (pos 0)) (sym (take_all (length ids) ids (omega arith))) ∙ last_at ids (length ids) some (omega arith)

pub last_most : (ids : List ℤ) (x : ℤ) → IsRising ids → list_any (int_eq x) ids ≡ true → x ≤ℤ last_from (pos 0) ids
last_most ids x h = any_up ids x (last_from (pos 0) ids) (λ i lt. let up = at_most ids i (length ids - 1) (pos 0) h (omega (arith, lt)) (omega (arith, lt)) in let same = last_is ids (omega (arith, lt)) in omega (arith, ints, up, same))

pub last_there : (ids : List ℤ) → 0 < length ids → list_any (int_eq (last_from (pos 0) ids)) ids ≡ true
last_there ids some = subst (λ z. list_any (int_eq z) ids ≡ true) (sym (last_is ids some)) (any_at ids (length ids - 1) (omega (arith, some)))
