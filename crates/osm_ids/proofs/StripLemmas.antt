-- Strips of ids: what is named in them, and what stays named.
use Rattle.std.proofs.Common.{◌≡◌, ◌<◌, ◌≤◌, ◌++◌, ◌+◌, ◌*◌, ◌-◌, ◌/◌, ℕ, zero, suc, ℤ, pos, negsuc, ◌-ℤ◌, ◌<ℤ◌, Bool, true, false, List, [], ◌∷◌, None, Some, nat_abs, refl, sym, ap, ◌∙◌, subst, length, length-set, set as set_at, get_or-set_same, get_or-set_other, inl, inr, true≢false, nat_eq, arith}
use Rattle.std.specs.Global.{Vec}
use Rattle.std.specs.List.{list_any, slice_get}
use Rattle.std.specs.Ordering.{int_eq}
use Rattle.std.specs.FinSet as set
use Rattle.std.proofs.lemmas.Bool.{cases_Bool, cases_eq, eqb-true, or_from, or_left, or_right, or_cases}
use Rattle.std.proofs.lemmas.Bool.Decides.{Decides-int_eq}
use Rattle.std.proofs.lemmas.Int.{ints}
use Rattle.std.proofs.lemmas.Nat.{div-mul-add}
use Rattle.std.specs.Int.Bits.{bit_and}
use Rattle.osm_ids.specs.declared.strips.IdStrips.{IdStrips}
use Rattle.osm_ids.specs.Pages.{rising}
use Rattle.osm_ids.specs.Strips.{AlsoLists, HasNumber, IsMarked, IsNamed, Marks, MarksNamed, NamesAll, StillNames, id_run, id_strip, listed_at, named_at, strip_numbers}
use Rattle.osm_ids.proofs.Sets.{Ids}
use Rattle.osm_ids.proofs.Kept.{has_rising}
use Rattle.osm_ids.proofs.OrderLemmas.{with_late, contains-with_late}

-- ---- the numbers in strips

pub no_numbers : (numbers : List ℕ) → length numbers ≡ 0 → numbers ≡ []
no_numbers [] none = refl
no_numbers (number ∷ numbers) none = absurd (omega (arith, none))

none_listed : (number : ℕ) → HasNumber [] number → ⊥
none_listed number there = true≢false (sym there)

-- more strips
pub also_append : (strips more : List (Vec ℕ)) → AlsoLists strips (strips ++ more)
also_append [] more index number there = absurd (none_listed number there)
also_append (strip ∷ strips) more zero number there = there
also_append (strip ∷ strips) more (suc index) number there = also_append strips more index number there

-- one strip in place of another, which has all numbers of it
pub also_set : (strips : List (Vec ℕ)) (at : ℕ) (old new : Vec ℕ) → slice_get strips at ≡ Some old → ((number : ℕ) → HasNumber old.items number → HasNumber new.items number) → AlsoLists strips (set_at strips at new)
also_set [] at old new is more index number there = absurd (none_listed number there)
also_set (strip ∷ strips) zero old new is more zero number there = more number (subst (λ (o : List ℕ). HasNumber o number) (ap strip_numbers is) there)
also_set (strip ∷ strips) zero old new is more (suc index) number there = there
also_set (strip ∷ strips) (suc at) old new is more zero number there = there
also_set (strip ∷ strips) (suc at) old new is more (suc index) number there = also_set strips at old new is more index number there

pub listed_set : (strips : List (Vec ℕ)) (at : ℕ) (new : Vec ℕ) → at < length strips → listed_at (set_at strips at new) at ≡ new.items
listed_set [] at new below = absurd (omega (arith, below))
listed_set (strip ∷ strips) zero new below = refl
listed_set (strip ∷ strips) (suc at) new below = listed_set strips at new (omega (arith, below))

-- a number is pushed
pub has_more : (numbers more : List ℕ) (number : ℕ) → HasNumber numbers number → HasNumber (numbers ++ more) number
has_more [] more number there = absurd (none_listed number there)
has_more (first ∷ numbers) more number there = elim (or_cases (nat_eq number first) (list_any (nat_eq number) numbers) there) [
  | inl e ↦ or_left _ _ e
  | inr e ↦ or_right (nat_eq number first) _ (has_more numbers more number e)
]

pub has_itself : (number : ℕ) (numbers : List ℕ) → HasNumber (number ∷ numbers) number
has_itself number numbers = grind arith

pub has_pushed : (numbers : List ℕ) (number : ℕ) → HasNumber (numbers ++ number ∷ []) number
has_pushed [] number = has_itself number []
has_pushed (first ∷ numbers) number = or_right (nat_eq number first) _ (has_pushed numbers number)

-- ---- marks

pub marks_same : (marks : List Bool) (at : ℕ) → length marks ≤ at → Marks (λ (other : ℕ). other ≡ at) marks marks
marks_same marks at past = record {
  set = λ number is below. absurd (omega (arith, past, is, below));
  kept = λ number is. is;
  as_many = refl;
}

set_kept : (marks : List Bool) (at number : ℕ) → at < length marks → IsMarked marks number → IsMarked (set_at marks at true) number
set_kept marks at number within is below = elim (cases_eq number at) [
  | inl e ↦ rw e (get_or-set_same marks at true false within)
  | inr other ↦ get_or-set_other marks at number true false other ∙ is (subst (λ n. number < n) (length-set marks at true) below)
]

pub marks_set : (marks : List Bool) (at : ℕ) → at < length marks → Marks (λ (other : ℕ). other ≡ at) marks (set_at marks at true)
marks_set marks at within = record {
  set = λ number is below. rw is (get_or-set_same marks at true false within);
  kept = λ number. set_kept marks at number within;
  as_many = length-set marks at true;
}

-- one of these numbers, and none of those that are left
abbrev pub IsPassed : (all left : List ℕ) → ℕ → Type 0
IsPassed all left number = HasNumber all number × (list_any (nat_eq number) left ≡ false)

pub passed_none : (all : List ℕ) (marks : List Bool) → Marks (IsPassed all all) marks marks
passed_none all marks = record {
  set = λ number passed. absurd (true≢false (sym passed.0 ∙ passed.1));
  kept = λ number is. is;
  as_many = refl;
}

pub passed_more : (all left : List ℕ) (at : ℕ) (old now new : List Bool) → Marks (IsPassed all (at ∷ left)) old now → Marks (λ (other : ℕ). other ≡ at) now new → Marks (IsPassed all left) old new
passed_more all left at old now new so_far next = record {
  set = λ number passed. elim (cases_Bool (nat_eq number at)) [
    | inl e ↦ next.set number (eqb-true number at e)
    | inr e ↦ next.kept number (so_far.set number (passed.0, or_from _ _ e passed.1))
  ];
  kept = λ number is. next.kept number (so_far.kept number is);
  as_many = next.as_many ∙ so_far.as_many;
}

pub passed_all : (all : List ℕ) (old new : List Bool) → Marks (IsPassed all []) old new → Marks (HasNumber all) old new
passed_all all old new so_far = record {
  set = λ number there. so_far.set number (there, refl);
  kept = so_far.kept;
  as_many = so_far.as_many;
}

pub marks_none : (marks : List Bool) → Marks (HasNumber []) marks marks
marks_none marks = record {
  set = λ number there. absurd (none_listed number there);
  kept = λ number is. is;
  as_many = refl;
}

-- ---- ids that are named

same_id : (x y : ℤ) → int_eq x y ≡ true → x ≡ y
same_id x y e = grind (arith, Decides-int_eq x y, e)

-- the ids of one run
in_run : (start end : ℕ) (other : ℤ) → (pos start -ℤ pos 1) <ℤ other → other <ℤ pos end → (start ≤ nat_abs other) × (nat_abs other < end)
in_run start end (pos m) from to = (omega (arith, ints, from), omega (arith, ints, to))
in_run start end (negsuc m) from to = absurd (omega (arith, ints, from))

pub same_run : (n width : ℕ) (other : ℤ) → 0 < width → (pos (n / width * width) -ℤ pos 1) <ℤ other → other <ℤ pos (n / width * width + width) → nat_abs other / width ≡ n / width
same_run n width other some from to =
    let within = in_run (n / width * width) (n / width * width + width) other from to in
    let past = nat_abs other - n / width * width in
    let is : nat_abs other ≡ n / width * width + past = omega (arith, within.0) in
    let few : past < width = omega (arith, within.0, within.1) in
    rw is (div-mul-add (n / width) width past few)

-- what is named is what is in the strip
pub named_in : (strips : IdStrips) (id : ℤ) (strip : Vec ℕ) → slice_get strips.strips.items (id_strip strips.runs id) ≡ Some strip → named_at strips id ≡ strip.items
unfolding named_at
named_in strips id strip is = ap strip_numbers is

pub none_named : (strips : IdStrips) (id : ℤ) → slice_get strips.strips.items (id_strip strips.runs id) ≡ None → named_at strips id ≡ []
unfolding named_at
none_named strips id none = ap strip_numbers none

pub named_alike : (strips : IdStrips) (id other : ℤ) → id_run strips.runs other ≡ id_run strips.runs id → named_at strips other ≡ named_at strips id
unfolding named_at
named_alike strips id other same = ap (λ (run : ℕ). listed_at strips.strips.items (bit_and run strips.runs.mask)) same

marks_named : (strips : IdStrips) (id : ℤ) (numbers : List ℕ) (old new : List Bool) → named_at strips id ≡ numbers → Marks (HasNumber numbers) old new → Marks (IsNamed strips id) old new
marks_named strips id numbers old new named marks = subst (λ (ns : List ℕ). Marks (HasNumber ns) old new) (sym named) marks

-- a list of no names has none of any number
not_named : (strips : IdStrips) (id : ℤ) (number : ℕ) → named_at strips id ≡ [] → IsNamed strips id number → ⊥
not_named strips id number none named = none_listed number (subst (λ (ns : List ℕ). HasNumber ns number) none named)

-- no set is named
pub marks_nobody : (strips : IdStrips) (id : ℤ) (marks : List Bool) → named_at strips id ≡ [] → MarksNamed (IsNamed strips id) marks marks false
marks_nobody strips id marks none = record {
  marked = marks_named strips id [] marks marks none (marks_none marks);
  none = λ told number named. not_named strips id number none named;
}

-- sets are named
pub marks_some : (strips : IdStrips) (id : ℤ) (numbers : List ℕ) (old new : List Bool) → named_at strips id ≡ numbers → Marks (HasNumber numbers) old new → MarksNamed (IsNamed strips id) old new true
marks_some strips id numbers old new named marks = record {
  marked = marks_named strips id numbers old new named marks;
  none = λ told. absurd (true≢false told);
}

-- those that are marked besides don't matter
pub marks_fewer : (some more : ℕ → Type 0) (old new : List Bool) (is_any : Bool) → ((number : ℕ) → some number → more number) → MarksNamed more old new is_any → MarksNamed some old new is_any
marks_fewer some more old new is_any within marks = record {
  marked = record {
    set = λ number is. marks.marked.set number (within number is);
    kept = marks.marked.kept;
    as_many = marks.marked.as_many;
  };
  none = λ told number is. marks.none told number (within number is);
}

-- the set is named for each of the ids but those that are left
abbrev pub NamesBut : IdStrips → ℕ → Ids → List ℤ → Type 0
NamesBut strips number ids left = (id : ℤ) → set.contains ids id ≡ true → list_any (int_eq id) left ≡ false → IsNamed strips id number

pub named_none : (strips : IdStrips) (number : ℕ) (ids : Ids) → NamesBut strips number ids (rising ids)
named_none strips number ids id there apart = absurd (true≢false (sym there ∙ has_rising ids id ∙ apart))

pub named_late : (strips : IdStrips) (number : ℕ) (ids : Ids) (late : List ℤ) → NamesAll strips number ids → NamesBut strips number (with_late ids late) late
named_late strips number ids late named id there apart = elim (or_cases (set.contains ids id) (list_any (int_eq id) late) (sym (contains-with_late ids late id) ∙ there)) [
  | inl e ↦ named id e
  | inr e ↦ absurd (true≢false (sym e ∙ apart))
]

pub named_more : (old new : IdStrips) (number : ℕ) (ids : Ids) (left : List ℤ) (next : ℤ) → NamesBut old number ids (next ∷ left) → IsNamed new next number → StillNames old new → NamesBut new number ids left
named_more old new number ids left next so_far named still id there apart = elim (cases_Bool (int_eq id next)) [
  | inl e ↦ subst (λ (x : ℤ). IsNamed new x number) (sym (same_id id next e)) named
  | inr e ↦ still id number (so_far id there (or_from _ _ e apart))
]

pub named_all : (strips : IdStrips) (number : ℕ) (ids : Ids) → NamesBut strips number ids [] → NamesAll strips number ids
named_all strips number ids named id there = named id there refl
