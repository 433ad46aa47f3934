-- What an empty list of faults shows.
use Rattle.std.proofs.Common.{◌≡◌, ◌==◌, ℕ, zero, suc, ◌+◌, ◌<◌, ◌≤◌, ℤ, pos, ◌+ℤ◌, Bool, true, false, List, [], ◌∷◌, ◌++◌, length, map, take, drop, refl, ap, sym, subst, ◌∙◌, arith}
use Rattle.std.specs.Prelude.{Option, Some, None, Result, Ok, Err, filter, nat_lt, not, if◌then◌else◌}
use Rattle.std.specs.List.{flat_map, last_or, AllByRecursion}
use Rattle.std.proofs.lemmas.List.{length-append, length-map, take-append-drop, length-drop}
use Rattle.std.proofs.lemmas.List.Elements.{filter-append}
use Rattle.std.specs.Option.{option_or}
use Rattle.pbf_wire.specs.declared.fault.Fault.{Fault}
use Rattle.pbf_wire.specs.declared.fault.Reason.{Reason}
use Rattle.pbf_wire.specs.declared.kind.Kind.{Kind}
use Rattle.pbf_wire.specs.declared.kind.Kind.TheVariants as kind
use Rattle.pbf_wire.specs.Varint.{EndsOnce, varint_at}
use Rattle.pbf_wire.specs.Occurrence.{Content, Occurrence, Item, items, found}
use Rattle.pbf_wire.specs.Columns.{entries, read_entries, entry_fault, content_numbers, column_of, joined}
use Rattle.pbf_wire.specs.Wire.{kind_of, reason_in, wire}
use Rattle.pbf_wire.proofs.FaultLemmas.{leaf_is_wire, ends}
use Rattle.pbf_wire.specs.Reading.{last_of}
use Rattle.pbf_wire.specs.Signed.{IsWithin, is_within, delta_in}
use Rattle.pbf_wire.specs.Sums.{sums, sums_from}
use Rattle.pbf_wire.specs.Least.{fault_rank, least, lesser_by}
use Rattle.pbf_wire.specs.Faults.{fault_where, or_more, message_faults, ends_in, ends_of, column_count, fields_in, faults_of_sums}
use Rattle.pbf_wire.proofs.Columns.{entries_none, entries_ok, entries_err}
use Rattle.pbf_wire.proofs.Spellings.{varint_ok}
use Rattle.pbf_wire.proofs.SumLemmas.{running_sums, within_is}
use Rattle.pbf_wire.proofs.RisingLemmas.{running, running_is}
use Rattle.pbf_wire.proofs.AllLemmas.{all_weaker}

-- ---- no fault

some_least : (f : Fault) (g : Option Fault) → lesser_by fault_rank (Some f) g ≡ None → ⊥
some_least f None e = absurd (cc)
some_least f (Some g) e = absurd (grind arith)

-- no least fault is no fault
pub no_least : (fs : List Fault) → least fs ≡ None → fs ≡ []
no_least [] e = refl
no_least (f ∷ fs) e = absurd (some_least f (least fs) e)

-- neither is there, if the first of them that is isn't
pub both_none : {X : Type 0} (one other : Option X) → option_or one other ≡ None → (one ≡ None) × (other ≡ None)
both_none None other e = (refl, e)
both_none (Some x) other e = absurd (cc)

pub option_last : {X : Type 0} (o : Option X) → option_or o None ≡ o
option_last o = grind arith

pub both_nil : {X : Type 0} (xs ys : List X) → xs ++ ys ≡ [] → (xs ≡ []) × (ys ≡ [])
both_nil [] ys e = (refl, e)
both_nil (x ∷ xs) ys e = absurd (cc)

pub all_nil : {X Y : Type 0} (f : X → List Y) (xs : List X) → flat_map f xs ≡ [] → AllByRecursion (λ x. f x ≡ []) xs
all_nil f [] e = tt
all_nil f (x ∷ xs) e = let both = both_nil (f x) (flat_map f xs) e in (both.0, all_nil f xs both.1)

-- a test that would be a fault doesn't hold
pub not_wrong : (wrong : Bool) (place : ℕ) (reason : Reason) → fault_where wrong place reason ≡ [] → wrong ≡ false
not_wrong wrong place reason e = grind arith

-- a test without which there would be a fault holds
pub is_right : (right : Bool) (place : ℕ) (reason : Reason) → fault_where (not right) place reason ≡ [] → right ≡ true
is_right right place reason e = grind arith

-- ---- the values of a column of differences

module _ (is_good : ℤ → Bool) (reason : Reason) (narrow : Bool) where
  good_from : (start : ℤ) (xs : List (ℕ × ℕ)) → running is_good reason narrow start xs ≡ [] → AllByRecursion (λ z. is_good z ≡ true) (sums_from start (map (delta_in narrow) (map (λ x. x.0) xs)))
  good_from start [] e = tt
  good_from start (x ∷ xs) e =
      let both = both_nil (fault_where (not (is_good (start +ℤ delta_in narrow x.0))) x.1 reason) _ e in
      (is_right (is_good (start +ℤ delta_in narrow x.0)) x.1 reason both.0, good_from (start +ℤ delta_in narrow x.0) xs both.1)

  -- each of them is good
  pub sums_good : (xs : List (ℕ × ℕ)) → faults_of_sums is_good reason narrow xs ≡ [] → AllByRecursion (λ z. is_good z ≡ true) (sums (map (delta_in narrow) (map (λ x. x.0) xs)))
  sums_good xs e =
      subst (λ (zs : List ℤ). AllByRecursion (λ z. is_good z ≡ true) zs) (running_sums (map (delta_in narrow) (map (λ x. x.0) xs))) (good_from (pos 0) xs (running_is is_good reason narrow xs ∙ e))

-- each of them is in range
pub sums_within_limit : (limit : ℤ) (reason : Reason) (narrow : Bool) (xs : List (ℕ × ℕ)) → faults_of_sums (is_within limit) reason narrow xs ≡ [] → AllByRecursion (IsWithin limit) (sums (map (delta_in narrow) (map (λ x. x.0) xs)))
sums_within_limit limit reason narrow xs e = all_weaker (λ z. is_within limit z ≡ true) (IsWithin limit) (within_is limit) _ (sums_good (is_within limit) reason narrow xs e)

-- ---- how many numbers a column has

end_once : (s : List ℕ) → EndsOnce s → length (ends s) ≡ 1
end_once [] h = absurd h
end_once (b ∷ bs) h = grind (arith, end_once bs)

ends_parted : (n : ℕ) (bytes : List ℕ) → length (ends bytes) ≡ length (ends (take n bytes)) + length (ends (drop n bytes))
ends_parted n bytes = cc (take-append-drop n bytes, filter-append (λ b. nat_lt b 128) (take n bytes) (drop n bytes), length-append (ends (take n bytes)) (ends (drop n bytes)))

ends_next : (m : List ℕ) (r : Result (ℕ × ℕ) Reason) → 0 < length m → varint_at m ≡ r → entry_fault (entries m) ≡ None
    → ((n : ℕ) → 0 < n → entry_fault (entries (drop n m)) ≡ None → length (ends (drop n m)) ≡ length (read_entries (entries (drop n m)))) → length (ends m) ≡ length (read_entries (entries m))
ends_next m (Err r) some is e more = absurd (let w = ap entry_fault (entries_err m r some is) in cc)
ends_next m (Ok p) some is e more =
    let f = varint_ok m p.0 p.1 is in
    let step = entries_ok m p.0 p.1 f.positive f.within is in
    let rest = more p.1 f.positive (sym (ap entry_fault step) ∙ e) in
    omega (arith, ends_parted p.1 m, end_once (take p.1 m) f.spelled.ended, rest, ap (λ w. length (read_entries w)) step)

ends_entries : (fuel : ℕ) (bytes : List ℕ) → length bytes ≤ fuel → entry_fault (entries bytes) ≡ None → length (ends bytes) ≡ length (read_entries (entries bytes))
ends_entries fuel [] le e = sym (ap (λ w. length (read_entries w)) (entries_none [] refl))
ends_entries zero (b ∷ bs) le e = absurd (omega arith)
ends_entries (suc fuel) (b ∷ bs) le e = ends_next (b ∷ bs) (varint_at (b ∷ bs)) (omega arith) refl e (λ n positive later. ends_entries fuel (drop n (b ∷ bs)) (omega (arith, length-drop n (b ∷ bs), positive)) later)

-- the numbers of a whole packed column are as many as the bytes that end a varint
pub ends_are_numbers : (bytes : List ℕ) → entry_fault (entries bytes) ≡ None → length (ends bytes) ≡ length (read_entries (entries bytes))
ends_are_numbers bytes e = ends_entries (length bytes) bytes (omega arith) e

entries_next : (m : List ℕ) (r : Result (ℕ × ℕ) Reason) → 0 < length m → varint_at m ≡ r
    → ((n : ℕ) → 0 < n → length (read_entries (entries (drop n m))) ≤ length (ends (drop n m))) → length (read_entries (entries m)) ≤ length (ends m)
entries_next m (Err r) some is more = omega (arith, ap (λ w. length (read_entries w)) (entries_err m r some is))
entries_next m (Ok p) some is more =
    let f = varint_ok m p.0 p.1 is in
    omega (arith, ends_parted p.1 m, end_once (take p.1 m) f.spelled.ended, more p.1 f.positive, ap (λ w. length (read_entries w)) (entries_ok m p.0 p.1 f.positive f.within is))

entries_ended : (fuel : ℕ) (bytes : List ℕ) → length bytes ≤ fuel → length (read_entries (entries bytes)) ≤ length (ends bytes)
entries_ended fuel [] le = omega (arith, ap (λ w. length (read_entries w)) (entries_none [] refl))
entries_ended zero (b ∷ bs) le = absurd (omega arith)
entries_ended (suc fuel) (b ∷ bs) le = entries_next (b ∷ bs) (varint_at (b ∷ bs)) (omega arith) refl (λ n positive. entries_ended fuel (drop n (b ∷ bs)) (omega (arith, length-drop n (b ∷ bs), positive)))

ended_in : (c : Content) → length (content_numbers c) ≤ length (ends_in c)
ended_in c = grind (arith, entries_ended)

one_ended : (k : ℕ) (o : Occurrence) → length (column_of k o) ≤ length (ends_of k o)
one_ended k o = grind (arith, length-map, ended_in)

-- a column has no more numbers than are counted, whatever is wrong with it
pub length_counted : (k : ℕ) (os : List Occurrence) → length (joined k os) ≤ column_count k os
length_counted k [] = omega arith
length_counted k (o ∷ os) = omega (arith, length-append (column_of k o) (joined k os), length-append (ends_of k o) (flat_map (ends_of k) os), one_ended k o, length_counted k os)

count_in : (c : Content) → reason_in (Some kind.Column) c ≡ None → length (ends_in c) ≡ length (content_numbers c)
count_in c e = grind (arith, ends_are_numbers)

module _ (kinds : List (ℕ × Kind)) (inner : Occurrence → List Fault) where
  abbrev pub IsSound : Occurrence → Type 0
  IsSound o = (reason_in (kind_of kinds o.number) o.content ≡ None) × (inner o ≡ [])

  field_sound : (o : Occurrence) (rest : List Item) (r : Option Reason) → reason_in (kind_of kinds o.number) o.content ≡ r → or_more o.place r (inner o ++ message_faults kinds inner rest) ≡ []
      → (message_faults kinds inner rest ≡ [] → AllByRecursion IsSound (found rest)) → AllByRecursion IsSound (found (Ok o ∷ rest))
  field_sound o rest (Some reason) is e more = absurd (cc)
  field_sound o rest None is e more = let both = both_nil (inner o) (message_faults kinds inner rest) e in ((is, both.0), more both.1)

  -- each field has its own type, and what is in it has no fault
  pub fields_sound : (its : List Item) → message_faults kinds inner its ≡ [] → AllByRecursion IsSound (found its)
  fields_sound [] e = tt
  fields_sound (Ok o ∷ rest) e = field_sound o rest (reason_in (kind_of kinds o.number) o.content) refl e (fields_sound rest)
  fields_sound (Err e ∷ rest) h = absurd (cc)

one_counted : (k : ℕ) (o : Occurrence) → (o.number ≡ k → reason_in (Some kind.Column) o.content ≡ None) → length (ends_of k o) ≡ length (column_of k o)
one_counted k o h = grind (arith, count_in, length-map)

-- the count of a column whose fields have its type is the number of its entries
pub count_is_length : (kinds : List (ℕ × Kind)) (inner : Occurrence → List Fault) (k : ℕ) (os : List Occurrence) → kind_of kinds k ≡ Some kind.Column
    → AllByRecursion (IsSound kinds inner) os → column_count k os ≡ length (joined k os)
count_is_length kinds inner k [] known h = refl
count_is_length kinds inner k (o ∷ os) known h = grind (arith, one_counted, length-append, count_is_length kinds inner k os known h.1)

-- ---- the last occurrence of a field

abbrev IfThere : (Occurrence → Type 0) → ℕ → Option Occurrence → Type 0
IfThere P k None = Unit {0}
IfThere P k (Some o) = P o × (o.number ≡ k)

abbrev later : ℕ → Option Occurrence → List Occurrence → Option Occurrence
later k o os = last_or o (filter (λ o. o.number == k) os)

last_from : (P : Occurrence → Type 0) (k : ℕ) (os : List Occurrence) (before : Option Occurrence) → AllByRecursion P os → IfThere P k before → IfThere P k (later k before os)
last_from P k [] before all h = h
last_from P k (o ∷ os) before all h = chosen (o.number == k) refl (λ same. last_from P k os (Some o) all.1 (all.0, same)) (last_from P k os before all.1 h) where
  chosen : (b : Bool) → (o.number == k) ≡ b → (o.number ≡ k → IfThere P k (later k (Some o) os)) → IfThere P k (later k before os) → IfThere P k (last_or before (if b then o ∷ filter (λ o. o.number == k) os else filter (λ o. o.number == k) os))
  chosen true e taken skipped = taken (grind arith)
  chosen false e taken skipped = skipped

-- what holds of all occurrences holds of the last of the field k
pub last_holds : (P : Occurrence → Type 0) (k : ℕ) (os : List Occurrence) (o : Occurrence) → AllByRecursion P os → last_of k os ≡ Some o → P o × (o.number ≡ k)
last_holds P k os o all e = subst (λ w. IfThere P k w) e (last_from P k os None all tt)

pub whole_count : (kinds : List (ℕ × Kind)) (k at : ℕ) (m : List ℕ) → kind_of kinds k ≡ Some kind.Column → wire kinds (items at m) ≡ None → column_count k (fields_in at m) ≡ length (joined k (fields_in at m))
whole_count kinds k at m known e =
    let none = no_least (message_faults kinds (λ o. []) (items at m)) (leaf_is_wire kinds (items at m) ∙ e) in
    count_is_length kinds (λ o. []) k (fields_in at m) known (fields_sound kinds (λ o. []) (items at m) none)
