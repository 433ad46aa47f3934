-- The offsets of a column's numbers rise, so the first value that isn't good is the least fault.
use Rattle.std.proofs.Common.{◌≡◌, ℕ, zero, suc, ◌+◌, ◌-◌, ◌≤◌, List, [], ◌∷◌, ◌++◌, map, refl, ap, sym, ◌∙◌, arith, ◌==◌, true, false, Bool, ℤ, pos, ◌+ℤ◌}
use Rattle.std.specs.Prelude.{Some, Result, Ok, Err, if◌then◌else◌, not}
use Rattle.std.specs.List.{flat_map, zip}
use Rattle.pbf_wire.specs.declared.fault.Fault.{Fault}
use Rattle.pbf_wire.specs.declared.fault.Reason.{Reason}
use Rattle.pbf_wire.specs.declared.fields.Fields.{Fields}
use Rattle.pbf_wire.specs.Cursors.{fields_left}
use Rattle.pbf_wire.specs.Occurrence.{Occurrence, Item, items, items_past, items_from, occurrence_at, found}
use Rattle.pbf_wire.specs.Columns.{placed, content_numbers, joined}
use Rattle.pbf_wire.specs.Signed.{delta_in}
use Rattle.pbf_wire.specs.Sums.{sums_from}
use Rattle.pbf_wire.specs.Least.{lesser, least, fault_rank}
use Rattle.pbf_wire.specs.Faults.{fault, fault_where, faults_of_sums, fields_in}
use Rattle.pbf_wire.proofs.Cutting.{front_ok}
use Rattle.pbf_wire.proofs.LeastLemmas.{lesser_joined}
use Rattle.pbf_wire.proofs.SumLemmas.{running_sums}

-- ---- places that don't go back

abbrev pub RisingFrom : ℕ → List (ℕ × ℕ) → Type 0
RisingFrom p [] = Unit {0}
RisingFrom p (x ∷ xs) = (p ≤ x.1) × RisingFrom x.1 xs

abbrev pub Rising : List (ℕ × ℕ) → Type 0
Rising [] = Unit {0}
Rising (x ∷ xs) = RisingFrom x.1 xs

abbrev Follow : ℕ → List Occurrence → Type 0
Follow p [] = Unit {0}
Follow p (o ∷ os) = (p ≤ o.place) × Follow o.place os

follow_before : (p q : ℕ) (os : List Occurrence) → p ≤ q → Follow q os → Follow p os
follow_before p q [] le h = tt
follow_before p q (o ∷ os) le h = (omega (arith, h.0), h.1)

front_follows : (at : ℕ) (r : Result (Occurrence × ℕ) Reason) (more : ℕ → List Item) → ((y : Occurrence × ℕ) → r ≡ Ok y → y.0.place ≡ at) → ((k : ℕ) → Follow (at + 1) (found (more k))) → Follow at (found (items_from at r more))
front_follows at (Ok front) more place h = (omega (arith, place front refl), follow_before front.0.place (at + 1) (found (more (front.1 - 1))) (omega (arith, place front refl)) (h (front.1 - 1)))
front_follows at (Err e) more place h = tt

follows : (skip at : ℕ) (m : List ℕ) → Follow at (found (items_past skip at m))
unfolding items_past
follows skip at [] = tt
follows (suc skip) at (b ∷ bs) = follow_before at (at + 1) (found (items_past skip (at + 1) bs)) (omega arith) (follows skip (at + 1) bs)
follows zero at (b ∷ bs) = front_follows at (occurrence_at at (b ∷ bs)) (λ skip. items_past skip (at + 1) bs) (λ y e. (front_ok at (b ∷ bs) y e).place) (λ k. follows k (at + 1) bs)

rises_before : (p q : ℕ) (xs : List (ℕ × ℕ)) → p ≤ q → RisingFrom q xs → RisingFrom p xs
rises_before p q [] le h = tt
rises_before p q (x ∷ xs) le h = (omega (arith, h.0), h.1)

pub rises : (p : ℕ) (xs : List (ℕ × ℕ)) → RisingFrom p xs → Rising xs
rises p [] h = tt
rises p (x ∷ xs) h = h.1

placed_rise : (p q : ℕ) (ns : List ℕ) (rest : List (ℕ × ℕ)) → p ≤ q → RisingFrom q rest → RisingFrom p (placed q ns ++ rest)
placed_rise p q [] rest le h = rises_before p q rest le h
placed_rise p q (n ∷ ns) rest le h = (le, placed_rise q q ns rest (omega arith) h)

chosen_rise : (b : Bool) (p q : ℕ) (ns : List ℕ) (rest : List (ℕ × ℕ)) → p ≤ q → RisingFrom q rest → RisingFrom p ((if b then placed q ns else []) ++ rest)
chosen_rise true p q ns rest le h = placed_rise p q ns rest le h
chosen_rise false p q ns rest le h = rises_before p q rest le h

joined_rise : (k p : ℕ) (os : List Occurrence) → Follow p os → RisingFrom p (joined k os)
joined_rise k p [] h = tt
joined_rise k p (o ∷ os) h = chosen_rise (o.number == k) p o.place (content_numbers o.content) (joined k os) h.0 (joined_rise k o.place os h.1)

pub column_rises : (k at : ℕ) (m : List ℕ) → Rising (joined k (fields_in at m))
column_rises k at m = rises at (joined k (found (items at m))) (joined_rise k at (found (items at m)) (follows 0 at m))

-- the offsets of the numbers that are left of a column rise
pub left_rises : (k : ℕ) (fields : Fields) → Rising (joined k (found (fields_left fields)))
unfolding fields_left
left_rises k fields = column_rises k fields.at fields.rest.now

-- ---- values from left to right

module _ (is_good : ℤ → Bool) (reason : Reason) (narrow : Bool) where
  -- the values above a start that aren't good
  abbrev pub running : ℤ → List (ℕ × ℕ) → List Fault
  running start [] = []
  running start (x ∷ xs) = fault_where (not (is_good (start +ℤ delta_in narrow x.0))) x.1 reason ++ running (start +ℤ delta_in narrow x.0) xs

  along : (start : ℤ) (xs : List (ℕ × ℕ)) → flat_map (λ v. fault_where (not (is_good v.0)) v.1 reason) (zip (sums_from start (map (λ x. delta_in narrow x.0) xs)) (map (λ x. x.1) xs)) ≡ running start xs
  along start [] = refl
  along start (x ∷ xs) = ap (λ w. fault_where (not (is_good (start +ℤ delta_in narrow x.0))) x.1 reason ++ w) (along (start +ℤ delta_in narrow x.0) xs)

  pub running_is : (xs : List (ℕ × ℕ)) → running (pos 0) xs ≡ faults_of_sums is_good reason narrow xs
  running_is xs =
      sym (along (pos 0) xs)
      ∙ ap (λ vs. flat_map (λ v. fault_where (not (is_good v.0)) v.1 reason) (zip vs (map (λ x. x.1) xs))) (running_sums (map (λ x. delta_in narrow x.0) xs))

  no_sooner : (p q : ℕ) → p ≤ q → lesser (Some (fault p reason)) (Some (fault q reason)) ≡ Some (fault p reason)
  no_sooner p q le = grind arith

  one_more : (b : Bool) (p q : ℕ) (fs : List Fault) → p ≤ q → lesser (Some (fault p reason)) (least fs) ≡ Some (fault p reason)
      → lesser (Some (fault p reason)) (least (fault_where b q reason ++ fs)) ≡ Some (fault p reason)
  one_more false p q fs le h = h
  one_more true p q fs le h = cc (lesser_joined fault_rank (Some (fault p reason)) (Some (fault q reason)) (least fs), no_sooner p q le, h)

  first_is_least : (p : ℕ) (start : ℤ) (xs : List (ℕ × ℕ)) → RisingFrom p xs → lesser (Some (fault p reason)) (least (running start xs)) ≡ Some (fault p reason)
  first_is_least p start [] h = refl
  first_is_least p start (x ∷ xs) h = grind (arith, one_more, rises_before, first_is_least p (start +ℤ delta_in narrow x.0) xs (rises_before p x.1 xs h.0 h.1))

  -- a value that isn't good, before any others
  pub not_good : (start : ℤ) (v p : ℕ) (xs : List (ℕ × ℕ)) → RisingFrom p xs → is_good (start +ℤ delta_in narrow v) ≡ false → least (running start ((v, p) ∷ xs)) ≡ Some (fault p reason)
  not_good start v p xs h e = grind (arith, first_is_least)
