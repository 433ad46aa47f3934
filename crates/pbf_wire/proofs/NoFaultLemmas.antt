-- A written message gives no faults if its slots give none.
use Rattle.pbf_wire.specs.Reading.{last_of, values}
use Rattle.std.proofs.lemmas.Grind.{flat_map-append}
use Rattle.std.proofs.Common.{◌≡◌, ℕ, ◌+◌, ◌*◌, ◌%◌, ◌^◌, ◌<◌, ℤ, pos, ◌+ℤ◌, Bool, true, List, [], ◌∷◌, ◌++◌, length, map, Option, Some, None, refl, sym, ap, ap₂, subst, ◌∙◌, drop, ◌==◌, arith, ◌≤◌, false}
use Rattle.std.specs.Prelude.{Ok, Err, not, filter, if◌then◌else◌}
use Rattle.std.specs.List.{flat_map, AllByRecursion, list_any, last_or}
use Rattle.std.proofs.lemmas.Bool.{lt-ltb}
use Rattle.std.proofs.lemmas.List.{length-map}
use Rattle.pbf_wire.specs.declared.fault.Fault.{Fault}
use Rattle.pbf_wire.specs.declared.fault.Reason.{Reason}
use Rattle.pbf_wire.specs.declared.fault.Reason.TheVariants.{OutOfRange, StringIndex}
use Rattle.pbf_wire.specs.declared.kind.Kind.{Kind}
use Rattle.pbf_wire.specs.declared.kind.Kind.TheVariants as kind
use Rattle.pbf_wire.specs.Varint.{shortest}
use Rattle.pbf_wire.specs.Occurrence.{Content, Number, Bytes, Occurrence, Item, items, found, items_past}
use Rattle.pbf_wire.specs.Columns.{packed, joined}
use Rattle.pbf_wire.specs.Wire.{kind_of, reason_in, or_at, wire}
use Rattle.pbf_wire.specs.Writing.{Part, Single, Whole, spelling, occurrences_of, occurrence_of}
use Rattle.pbf_wire.specs.Message.{Slot, Scalar, Column, Each, parts_of, message, SlotFits, SlotIs, numbers_at, unless_empty, messages_at, scalars_at}
use Rattle.pbf_wire.specs.Signed.{delta_in, IsWithin, is_within}
use Rattle.pbf_wire.specs.Sums.{sums, sums_from}
use Rattle.pbf_wire.specs.Faults.{fault_where, or_more, message_faults, leaf_faults, fields_in, column_count, below_fault, index_faults, faults_of_sums, sum_faults, index_sum_faults, is_index, fields_of, embedded, missing, twice, of_value, in_last}
use Rattle.pbf_wire.proofs.MessageLemmas.{fields_written, column_written, no_wire_fault, part_scalars, part_messages, slots_scalars, slots_messages, numbers, values_written}
use Rattle.pbf_wire.proofs.SumLemmas.{running_sums, within_true}
use Rattle.pbf_wire.proofs.SoundLemmas.{both_nil, whole_count}
use Rattle.pbf_wire.proofs.RisingLemmas.{running, running_is}
use Rattle.pbf_wire.proofs.AllLemmas.{all_append, all_each, all_map, all_weaker}

-- ---- what the fields give

abbrev pub field_at : ℕ → ℕ → Content → Occurrence
field_at place number content = record { place = place; number = number; content = content }

module _ {X : Type 0} (f : Occurrence → List X) where
  -- the field gives nothing, wherever it is
  abbrev PartQuiet : Part → Type 0
  PartQuiet (Single number value) = (place : ℕ) → f (field_at place number (Number value)) ≡ []
  PartQuiet (Whole number bytes) = (place at : ℕ) → f (field_at place number (Bytes bytes at)) ≡ []

  -- the fields of the slot give nothing, wherever they are
  abbrev pub SlotQuiet : Slot → Type 0
  SlotQuiet (Scalar number None) = Unit {0}
  SlotQuiet (Scalar number (Some value)) = (place : ℕ) → f (field_at place number (Number value)) ≡ []
  SlotQuiet (Column number []) = Unit {0}
  SlotQuiet (Column number (v ∷ vs)) = (place at : ℕ) → f (field_at place number (Bytes (packed (v ∷ vs)) at)) ≡ []
  SlotQuiet (Each number messages) = AllByRecursion (λ m. (place at : ℕ) → f (field_at place number (Bytes m at)) ≡ []) messages

  pub scalar_quiet : (number : ℕ) (value : Option ℕ) → ((place value : ℕ) → f (field_at place number (Number value)) ≡ []) → SlotQuiet (Scalar number value)
  scalar_quiet number None h = tt
  scalar_quiet number (Some value) h = λ place. h place value

  pub column_quiet : (number : ℕ) (values : List ℕ) → ((place at : ℕ) (bytes : List ℕ) → f (field_at place number (Bytes bytes at)) ≡ []) → SlotQuiet (Column number values)
  column_quiet number [] h = tt
  column_quiet number (v ∷ vs) h = λ place at. h place at (packed (v ∷ vs))

  pub each_quiet : (number : ℕ) (messages : List (List ℕ)) → ((place at : ℕ) (bytes : List ℕ) → f (field_at place number (Bytes bytes at)) ≡ []) → SlotQuiet (Each number messages)
  each_quiet number messages h = all_each (λ m. (place at : ℕ) → f (field_at place number (Bytes m at)) ≡ []) (λ m place at. h place at m) messages

  parts_quiet : (at : ℕ) (ps : List Part) → AllByRecursion PartQuiet ps → flat_map f (occurrences_of at ps) ≡ []
  parts_quiet at [] h = refl
  parts_quiet at (Single number value ∷ ps) h = grind (arith, parts_quiet (at + length (spelling (Single number value))) ps h.1)
  parts_quiet at (Whole number bytes ∷ ps) h = grind (arith, parts_quiet (at + length (spelling (Whole number bytes))) ps h.1)

  slot_quiet : (s : Slot) → SlotQuiet s → AllByRecursion PartQuiet (parts_of s)
  slot_quiet (Scalar number (Some value)) h = (h, tt)
  slot_quiet (Column number (v ∷ vs)) h = (h, tt)
  slot_quiet (Each number ms) h = all_map PartQuiet (Whole number) ms h
  slot_quiet s h = tt

  slots_quiet : (slots : List Slot) → AllByRecursion SlotQuiet slots → AllByRecursion PartQuiet (flat_map parts_of slots)
  slots_quiet [] h = tt
  slots_quiet (s ∷ slots) h = all_append PartQuiet (parts_of s) (flat_map parts_of slots) (slot_quiet s h.0) (slots_quiet slots h.1)

  -- quiet slots give nothing
  pub fields_quiet : (at : ℕ) (slots : List Slot) → AllByRecursion SlotQuiet slots → AllByRecursion SlotFits slots → length (message slots) < 2 ^ 64 → flat_map f (fields_in at (message slots)) ≡ []
  fields_quiet at slots h fits lt = ap (flat_map f) (fields_written at slots fits lt) ∙ parts_quiet at (flat_map parts_of slots) (slots_quiet slots h)

  -- the fields of the slot give these, wherever they are
  abbrev pub SlotGives : Slot → List X → Type 0
  SlotGives s xs = (at : ℕ) → flat_map f (occurrences_of at (parts_of s)) ≡ xs

  pub quiet_gives : (s : Slot) → SlotQuiet s → SlotGives s []
  quiet_gives s h at = parts_quiet at (parts_of s) (slot_quiet s h)

  pub each_gives : {W : Type 0} (message_of : W → List ℕ) (out : W → List X) (number : ℕ) (ws : List W) → AllByRecursion (λ w. (place at : ℕ) → f (field_at place number (Bytes (message_of w) at)) ≡ out w) ws
      → SlotGives (Each number (map message_of ws)) (flat_map out ws)
  each_gives message_of out number [] h at = refl
  each_gives message_of out number (w ∷ ws) h at =
      let m = message_of w in
      ap₂ (λ (xs ys : List X). xs ++ ys) (h.0 at (at + length (shortest (number * 8 + 2)) + length (shortest (length m)))) (each_gives message_of out number ws h.1 (at + length (spelling (Whole number m))))

  split : (at : ℕ) (ps qs : List Part) → (to : ℕ) × (occurrences_of at (ps ++ qs) ≡ occurrences_of at ps ++ occurrences_of to qs)
  split at [] qs = (at, refl)
  split at (p ∷ ps) qs =
      let others = split (at + length (spelling p)) ps qs in
      (others.0, ap (λ (os : List Occurrence). occurrence_of at p ∷ os) others.1)

  slots_give : (at : ℕ) (given : List (Slot × List X)) → AllByRecursion (λ g. SlotGives g.0 g.1) given → flat_map f (occurrences_of at (flat_map parts_of (map (λ g. g.0) given))) ≡ flat_map (λ g. g.1) given
  slots_give at [] h = refl
  slots_give at (g ∷ given) h =
      let parts = split at (parts_of g.0) (flat_map parts_of (map (λ g. g.0) given)) in
      cc (parts.1, flat_map-append f (occurrences_of at (parts_of g.0)) (occurrences_of parts.0 (flat_map parts_of (map (λ g. g.0) given))), h.0 at, slots_give parts.0 given h.1)

  -- what the fields give is what the slots give, in order
  pub fields_give : (at : ℕ) (given : List (Slot × List X)) → AllByRecursion (λ g. SlotGives g.0 g.1) given → AllByRecursion SlotFits (map (λ g. g.0) given) → length (message (map (λ g. g.0) given)) < 2 ^ 64
      → flat_map f (fields_in at (message (map (λ g. g.0) given))) ≡ flat_map (λ g. g.1) given
  fields_give at given h fits lt = ap (flat_map f) (fields_written at (map (λ g. g.0) given) fits lt) ∙ slots_give at given h

-- ---- wire form

module _ (kinds : List (ℕ × Kind)) (inner : Occurrence → List Fault) where
  field_faultless : (o : Occurrence) (rest : List Item) (r : Option Reason) → or_at o.place r (wire kinds rest) ≡ None → inner o ++ flat_map inner (found rest) ≡ []
      → (wire kinds rest ≡ None → flat_map inner (found rest) ≡ [] → message_faults kinds inner rest ≡ []) → or_more o.place r (inner o ++ message_faults kinds inner rest) ≡ []
  field_faultless o rest r e h more = grind (arith, both_nil)

  -- a message without a fault of its own has none if its fields give none
  faultless : (its : List Item) → wire kinds its ≡ None → flat_map inner (found its) ≡ [] → message_faults kinds inner its ≡ []
  faultless [] e h = refl
  faultless (Ok o ∷ rest) e h = field_faultless o rest (reason_in (kind_of kinds o.number) o.content) e h (faultless rest)
  faultless (Err e ∷ rest) h q = absurd (cc)

-- a written message has no wire fault if its slots have their types and what is in them has none
pub no_fault_within : (kinds : List (ℕ × Kind)) (inner : Occurrence → List Fault) (at : ℕ) (slots : List Slot) → AllByRecursion (SlotIs kinds) slots → AllByRecursion (SlotQuiet inner) slots → AllByRecursion SlotFits slots → length (message slots) < 2 ^ 64
    → message_faults kinds inner (items at (message slots)) ≡ []
no_fault_within kinds inner at slots h quiet fits lt = grind (arith, faultless, no_wire_fault, fields_quiet)

abbrev no_faults : Occurrence → List Fault
no_faults o = []

nothing_given : (os : List Occurrence) → flat_map no_faults os ≡ []
nothing_given [] = refl
nothing_given (o ∷ os) = nothing_given os

pub leaf_quiet : (kinds : List (ℕ × Kind)) (place at : ℕ) (slots : List Slot) → AllByRecursion (SlotIs kinds) slots → AllByRecursion SlotFits slots → length (message slots) < 2 ^ 64 → leaf_faults kinds place at (message slots) ≡ []
leaf_quiet kinds place at slots h fits lt = grind (arith, faultless, no_wire_fault, nothing_given)

-- ---- counts

-- a column counts as many numbers as were written
pub counted_written : (kinds : List (ℕ × Kind)) (k at : ℕ) (slots : List Slot) → kind_of kinds k ≡ Some kind.Column → AllByRecursion (SlotIs kinds) slots → AllByRecursion SlotFits slots → length (message slots) < 2 ^ 64
    → column_count k (fields_in at (message slots)) ≡ length (flat_map (numbers_at k) slots)
counted_written kinds k at slots known h fits lt = cc (whole_count kinds k at (message slots) known (no_wire_fault kinds at slots h fits lt), length-map (joined k (fields_in at (message slots))) (λ p. p.0), column_written k at slots fits lt)

-- ---- values

pub below_good : (reason : Reason) (limit : ℕ) (entries : List (ℕ × ℕ)) → AllByRecursion (λ v. v % 2 ^ 32 < limit) (map (λ p. p.0) entries) → flat_map (below_fault reason limit) entries ≡ []
below_good reason limit [] h = refl
below_good reason limit (x ∷ xs) h =
    ap₂ (λ (b : Bool) (fs : List Fault). fault_where (not b) x.1 reason ++ fs) (lt-ltb (x.0 % 2 ^ 32) limit h.0) (below_good reason limit xs h.1)

pub indexes_good : (limit : ℕ) (entries : List (ℕ × ℕ)) → AllByRecursion (λ v. v % 2 ^ 32 < limit) (map (λ p. p.0) entries) → index_faults limit entries ≡ []
indexes_good limit entries h = below_good StringIndex limit entries h

module _ (is_good : ℤ → Bool) (reason : Reason) (narrow : Bool) where
  running_good : (start : ℤ) (xs : List (ℕ × ℕ)) → AllByRecursion (λ z. is_good z ≡ true) (sums_from start (map (delta_in narrow) (map (λ x. x.0) xs))) → running is_good reason narrow start xs ≡ []
  running_good start [] h = refl
  running_good start (x ∷ xs) h =
      ap₂ (λ (b : Bool) (fs : List Fault). fault_where (not b) x.1 reason ++ fs) h.0 (running_good (start +ℤ delta_in narrow x.0) xs h.1)

  pub good_sums : (xs : List (ℕ × ℕ)) → AllByRecursion (λ z. is_good z ≡ true) (sums (map (delta_in narrow) (map (λ x. x.0) xs))) → faults_of_sums is_good reason narrow xs ≡ []
  good_sums xs h =
      sym (running_is is_good reason narrow xs)
      ∙ running_good (pos 0) xs (subst (λ (zs : List ℤ). AllByRecursion (λ z. is_good z ≡ true) zs) (sym (running_sums (map (delta_in narrow) (map (λ x. x.0) xs)))) h)

pub sums_good_written : (limit : ℤ) (narrow : Bool) (entries : List (ℕ × ℕ)) → AllByRecursion (IsWithin limit) (sums (map (delta_in narrow) (map (λ p. p.0) entries))) → sum_faults limit narrow entries ≡ []
sums_good_written limit narrow entries h = good_sums (is_within limit) OutOfRange narrow entries (all_weaker (IsWithin limit) (λ z. is_within limit z ≡ true) (within_true limit) _ h)

pub index_sums_good : (limit : ℕ) (entries : List (ℕ × ℕ)) → AllByRecursion (λ z. is_index limit z ≡ true) (sums (map (delta_in true) (map (λ p. p.0) entries))) → index_sum_faults limit entries ≡ []
index_sums_good limit entries h = good_sums (is_index limit) StringIndex true entries h

-- ---- how often a field occurs

abbrev all_of : ℕ → List Occurrence → List Occurrence
all_of k os = filter (λ o. o.number == k) os

parts_counted : (k at : ℕ) (ps : List Part) → length (all_of k (occurrences_of at ps)) ≡ length (flat_map (part_messages k) ps) + length (flat_map (part_scalars k) ps)
parts_counted k at [] = refl
parts_counted k at (Single number value ∷ ps) = grind (arith, parts_counted k (at + length (spelling (Single number value))) ps)
parts_counted k at (Whole number bytes ∷ ps) = grind (arith, parts_counted k (at + length (spelling (Whole number bytes))) ps)

-- how many fields of the number k are written for these slots
abbrev pub field_count : ℕ → List Slot → ℕ
field_count k slots = length (flat_map (messages_at k) slots) + length (flat_map (scalars_at k) slots)

fields_counted : (k at : ℕ) (slots : List Slot) → AllByRecursion SlotFits slots → length (message slots) < 2 ^ 64 → length (all_of k (fields_in at (message slots))) ≡ field_count k slots
fields_counted k at slots fits lt = cc (fields_written at slots fits lt, parts_counted k at (flat_map parts_of slots), slots_messages k slots, slots_scalars k slots)

any_kept : (k : ℕ) (os : List Occurrence) → 0 < length (all_of k os) → list_any (λ o. o.number == k) os ≡ true
any_kept k [] lt = absurd (omega arith)
any_kept k (o ∷ os) lt = grind (arith, any_kept k os)

-- a field that is written isn't missing
pub present_written : (k place at : ℕ) (slots : List Slot) → AllByRecursion SlotFits slots → length (message slots) < 2 ^ 64 → 0 < field_count k slots → missing k place (fields_in at (message slots)) ≡ []
present_written k place at slots fits lt some = grind (arith, any_kept, fields_counted)

none_behind : (os : List Occurrence) → length os ≤ 1 → drop 1 os ≡ []
none_behind (o ∷ p ∷ os) le = absurd (omega arith)
none_behind os le = refl

-- a field that is written once doesn't occur twice
pub once_written : (k at : ℕ) (slots : List Slot) → AllByRecursion SlotFits slots → length (message slots) < 2 ^ 64 → field_count k slots ≤ 1 → twice k (fields_in at (message slots)) ≡ []
once_written k at slots fits lt few = grind (arith, none_behind, fields_counted)

-- ---- the last message that a field holds

no_fields : (k at : ℕ) (ps : List Part) → flat_map (part_messages k) ps ≡ [] → flat_map (part_scalars k) ps ≡ [] → all_of k (occurrences_of at ps) ≡ []
no_fields k at ps e h = none (all_of k (occurrences_of at ps)) (parts_counted k at ps ∙ ap₂ (λ (ms : List (List ℕ)) (vs : List ℕ). length ms + length vs) e h)
  where
    none : (os : List Occurrence) → length os ≡ 0 → os ≡ []
    none [] e = refl
    none (o ∷ os) e = absurd (omega arith)

-- the field k with these bytes, somewhere
abbrev pub Holds : ℕ → List ℕ → Option Occurrence → Type 0
Holds k m o = (place : ℕ) × (at : ℕ) × (o ≡ Some (field_at place k (Bytes m at)))

abbrev last_from : Option Occurrence → List Occurrence → Option Occurrence
last_from before os = last_or before os

one_field : (k at : ℕ) (m : List ℕ) (ps : List Part) (before : Option Occurrence) → flat_map (part_messages k) ps ≡ m ∷ [] → flat_map (part_scalars k) ps ≡ [] → Holds k m (last_from before (all_of k (occurrences_of at ps)))
one_field k at m [] before e h = absurd cc
one_field k at m (Single number value ∷ ps) before e h = by (number == k) refl h (λ h. one_field k (at + length (spelling (Single number value))) m ps before e h)
  where
    by : (b : Bool) → (number == k) ≡ b → (if b then value ∷ [] else []) ++ flat_map (part_scalars k) ps ≡ []
        → (flat_map (part_scalars k) ps ≡ [] → Holds k m (last_from before (all_of k (occurrences_of (at + length (spelling (Single number value))) ps))))
        → Holds k m (last_from before (all_of k (occurrences_of at (Single number value ∷ ps))))
    by true is h more = absurd cc
    by false is h more = rw is (more h)
one_field k at m (Whole number bytes ∷ ps) before e h = by (number == k) refl e (λ e. one_field k (at + length (spelling (Whole number bytes))) m ps before e h)
  where
    next : ℕ
    next = at + length (spelling (Whole number bytes))

    inner : ℕ
    inner = at + length (shortest (number * 8 + 2)) + length (shortest (length bytes))

    by : (b : Bool) → (number == k) ≡ b → (if b then bytes ∷ [] else []) ++ flat_map (part_messages k) ps ≡ m ∷ []
        → (flat_map (part_messages k) ps ≡ m ∷ [] → Holds k m (last_from before (all_of k (occurrences_of next ps))))
        → Holds k m (last_from before (all_of k (occurrences_of at (Whole number bytes ∷ ps))))
    by true is e more =
        let same : bytes ≡ m = cc in
        let none : flat_map (part_messages k) ps ≡ [] = cc in
        let left = no_fields k next ps none h in
        let numbered : number ≡ k = grind arith in
        (at, inner, rw (is, left) (ap₂ (λ (n : ℕ) (w : List ℕ). Some (field_at at n (Bytes w inner))) numbered same))
    by false is e more = rw is (more e)

-- the last field of a number whose only message was written holds it
pub last_held : (k at : ℕ) (slots : List Slot) (m : List ℕ) → AllByRecursion SlotFits slots → length (message slots) < 2 ^ 64 → flat_map (messages_at k) slots ≡ m ∷ [] → flat_map (scalars_at k) slots ≡ []
    → Holds k m (last_of k (fields_in at (message slots)))
last_held k at slots m fits lt e h =
    let held = one_field k at m (flat_map parts_of slots) None (slots_messages k slots ∙ e) (slots_scalars k slots ∙ h) in
    (held.0, held.1, ap (last_of k) (fields_written at slots fits lt) ∙ held.2)

-- and is read where it begins
pub embedded_written : (k at : ℕ) (slots : List Slot) (m : List ℕ) → AllByRecursion SlotFits slots → length (message slots) < 2 ^ 64 → flat_map (messages_at k) slots ≡ m ∷ [] → flat_map (scalars_at k) slots ≡ []
    → (inner : ℕ) × (embedded k (fields_in at (message slots)) ≡ fields_in inner m)
embedded_written k at slots m fits lt e h = let held = last_held k at slots m fits lt e h in (held.1, ap fields_of held.2)

-- and nothing if there is none
pub embedded_none : (k at : ℕ) (slots : List Slot) → AllByRecursion SlotFits slots → length (message slots) < 2 ^ 64 → flat_map (messages_at k) slots ≡ [] → flat_map (scalars_at k) slots ≡ [] → embedded k (fields_in at (message slots)) ≡ []
embedded_none k at slots fits lt e h = cc (fields_written at slots fits lt, no_fields k at (flat_map parts_of slots) (slots_messages k slots ∙ e) (slots_scalars k slots ∙ h))

pub no_items : fields_in 0 [] ≡ []
unfolding items_past
no_items = refl

-- a message that is left out if it is empty reads as one that is empty
pub embedded_or_none : (k at : ℕ) (slots : List Slot) (m : List ℕ) → AllByRecursion SlotFits slots → length (message slots) < 2 ^ 64 → flat_map (messages_at k) slots ≡ unless_empty m → flat_map (scalars_at k) slots ≡ []
    → (inner : ℕ) × (embedded k (fields_in at (message slots)) ≡ fields_in inner m)
embedded_or_none k at slots [] fits lt e h = (0, embedded_none k at slots fits lt e h ∙ sym no_items)
embedded_or_none k at slots (b ∷ bs) fits lt e h = embedded_written k at slots (b ∷ bs) fits lt e h

pub unless_all : (P : List ℕ → Type 0) (m : List ℕ) → P m → AllByRecursion P (unless_empty m)
unless_all P [] p = tt
unless_all P (b ∷ bs) p = (p, tt)

pub unless_below : (n : ℕ) (m : List ℕ) → 0 < n → AllByRecursion (λ m. length m < n) (unless_empty m) → length m < n
unless_below n m positive h = grind arith

pub unless_few : (m : List ℕ) → length (unless_empty m) ≤ 1
unless_few m = grind arith

-- a column of another field gives no message
pub column_passed : (k number : ℕ) (values : List ℕ) (rest : List (List ℕ)) → (number == k) ≡ false → messages_at k (Column number values) ++ rest ≡ rest
column_passed k number values rest e = grind arith

-- ---- the last number of a field

module _ (k : ℕ) (f : ℕ → ℕ → List Fault) where
  abbrev AllQuiet : List ℕ → Type 0
  AllQuiet vs = AllByRecursion (λ v. (place : ℕ) → f place v ≡ []) vs

  last_quiet : (vs : List (ℕ × ℕ)) (before : Option (ℕ × ℕ)) → AllQuiet (numbers vs) → of_value f before ≡ [] → of_value f (last_or before vs) ≡ []
  last_quiet [] before h e = e
  last_quiet (v ∷ vs) before h e = last_quiet vs (Some v) h.1 (h.0 v.0)

  -- the last number gives nothing if no number at the field does
  pub in_last_written : (at : ℕ) (slots : List Slot) → AllByRecursion SlotFits slots → length (message slots) < 2 ^ 64 → AllQuiet (flat_map (scalars_at k) slots) → in_last k f (fields_in at (message slots)) ≡ []
  in_last_written at slots fits lt h =
      ap (in_last k f) (fields_written at slots fits lt)
      ∙ last_quiet (values k (occurrences_of at (flat_map parts_of slots))) None (subst AllQuiet (sym (values_written k at slots)) h) refl
