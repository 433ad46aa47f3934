-- Lists of faults, step by step.
use Rattle.std.proofs.Common.{◌≡◌, ◌==◌, ℕ, zero, suc, ◌+◌, ◌≤◌, Bool, true, List, [], ◌∷◌, length, map, drop, refl, ap, ◌∙◌, arith}
use Rattle.std.specs.Prelude.{Option, Some, None, Result, Ok, filter, nat_lt, if◌then◌else◌}
use Rattle.std.specs.List.{flat_map, count_by, AllByRecursion}
use Rattle.std.proofs.lemmas.List.{length-append, length-map}
use Rattle.std.proofs.lemmas.List.Sums.{length-filter, count_by-le-length}
use Rattle.pbf_wire.specs.declared.fault.Fault.{Fault}
use Rattle.pbf_wire.specs.declared.fault.Reason.{Reason}
use Rattle.pbf_wire.specs.declared.fault.Reason.TheVariants.{TwiceMessage}
use Rattle.pbf_wire.specs.declared.kind.Kind.{Kind}
use Rattle.pbf_wire.specs.Varint.{IsVarint, varint_at}
use Rattle.pbf_wire.specs.Occurrence.{Content, Occurrence, Item, IsBody, IsSpelled, Joins}
use Rattle.pbf_wire.specs.Columns.{Entry, entries_from, entries_past, read_entries, content_numbers, column_of, joined}
use Rattle.pbf_wire.specs.Wire.{kind_of, reason_in, or_at, wire}
use Rattle.pbf_wire.specs.Reading.{bytes_held}
use Rattle.pbf_wire.specs.Least.{lesser, least, fault_rank}
use Rattle.pbf_wire.specs.Faults.{fault, or_more, message_faults, ends_in, ends_of, column_count, fields_in}
use Rattle.pbf_wire.proofs.Cutting.{is_cutting}
use Rattle.pbf_wire.proofs.LeastLemmas.{lesser_joined}
use Rattle.pbf_wire.proofs.AllLemmas.{all_weaker}

-- a least so far, and one fault before others
pub least_next : (f : Option Fault) (x : Fault) (ys : List Fault) → lesser (lesser f (Some x)) (least ys) ≡ lesser f (least (x ∷ ys))
least_next f x ys = lesser_joined fault_rank f (Some x) (least ys)

-- a message without embedded ones has its first wire fault at most
pub leaf_is_wire : (kinds : List (ℕ × Kind)) (its : List Item) → least (message_faults kinds (λ o. []) its) ≡ wire kinds its
leaf_is_wire kinds (Ok o ∷ rest) = elim (reason_in (kind_of kinds o.number) o.content) as (λ r. least (or_more o.place r (message_faults kinds (λ o. []) rest)) ≡ or_at o.place r (wire kinds rest)) [ Some reason ↦ refl | None ↦ leaf_is_wire kinds rest ]
leaf_is_wire kinds its = refl

-- ---- each occurrence after the first

abbrev pub all_of : ℕ → List Occurrence → List Occurrence
all_of k os = filter (λ o. o.number == k) os

all_next : (k : ℕ) (o : Occurrence) (os : List Occurrence) → o.number ≡ k → all_of k (o ∷ os) ≡ o ∷ all_of k os
all_next k o os same = grind arith

-- the second or a later occurrence
pub occurs_later : (seen : Bool) (so_far : Option Fault) (k : ℕ) (os t : List Occurrence) (o : Occurrence) (all : Option Fault) → seen ≡ true → os ≡ o ∷ t → o.number ≡ k
    → lesser so_far (least (map (λ o. fault o.place TwiceMessage) (if seen then all_of k os else drop 1 (all_of k os)))) ≡ all
    → lesser (lesser so_far (Some (fault o.place TwiceMessage))) (least (map (λ o. fault o.place TwiceMessage) (all_of k t))) ≡ all
occurs_later seen so_far k os t o all e next same h = grind (arith, least_next, all_next)

-- ---- how many numbers a column has

-- the bytes that end a varint
abbrev pub ends : List ℕ → List ℕ
ends bytes = filter (λ b. nat_lt b 128) bytes

pub ends_counted : (bytes : List ℕ) → length (ends bytes) ≡ count_by (λ b. nat_lt b 128) bytes
ends_counted bytes = length-filter (λ b. nat_lt b 128) bytes

spelled_long : (v : ℕ) (s : List ℕ) → IsVarint v s → 1 ≤ length s
spelled_long v [] h = absurd h.ended
spelled_long v (b ∷ bs) h = omega arith

ends_short : (c : Content) (kind end : ℕ) (s : List ℕ) → IsBody c kind end s → length (ends_in c) ≤ length s
ends_short c kind end s h = grind (arith, spelled_long, ends_counted, count_by-le-length, length-append)

one_short : (k : ℕ) (o : Occurrence) (s : List ℕ) → IsSpelled o s → length (ends_of k o) ≤ length s
one_short k o s h = grind (arith, ends_short, length-append)

front_within : (r : Result (ℕ × ℕ) Reason) (more : ℕ → List Entry) (n : ℕ) → ((skip : ℕ) → length (read_entries (more skip)) ≤ n) → length (read_entries (entries_from r more)) ≤ suc n
front_within r more n h = grind arith

pub numbers_within : (skip : ℕ) (bytes : List ℕ) → length (read_entries (entries_past skip bytes)) ≤ length bytes
unfolding entries_past
numbers_within skip [] = omega arith
numbers_within (suc skip) (b ∷ bs) = omega (arith, numbers_within skip bs)
numbers_within zero (b ∷ bs) = front_within (varint_at (b ∷ bs)) (λ skip. entries_past skip bs) (length bs) (λ skip. numbers_within skip bs)

numbers_short : (c : Content) (kind end : ℕ) (s : List ℕ) → IsBody c kind end s → length (content_numbers c) ≤ length s
numbers_short c kind end s h = grind (arith, spelled_long, numbers_within, length-append)

one_column_short : (k : ℕ) (o : Occurrence) (s : List ℕ) → IsSpelled o s → length (column_of k o) ≤ length s
one_column_short k o s h = grind (arith, length-map, numbers_short, length-append)

module _ {X : Type 0} (f : Occurrence → List X) (one : (o : Occurrence) (s : List ℕ) → IsSpelled o s → length (f o) ≤ length s) where
  joined_short : (at : ℕ) (m : List ℕ) (os : List Occurrence) → Joins at m os → length (flat_map f os) ≤ length m
  joined_short at m [] h = omega arith
  joined_short at m (o ∷ os) h =
      omega (arith, one o h.0 h.4, joined_short (at + length h.0) h.1 os h.5, ap length h.2, length-append h.0 h.1, length-append (f o) (flat_map f os))

  all_within : (at : ℕ) (m : List ℕ) → length (flat_map f (fields_in at m)) ≤ length m
  all_within at m =
      let c = is_cutting at m in
      omega (arith, joined_short at c.front (fields_in at m) c.joins, ap length c.parts, length-append c.front c.left)

-- no more than the message has bytes
pub count_short : (k at : ℕ) (m : List ℕ) → column_count k (fields_in at m) ≤ length m
count_short k at m = all_within (ends_of k) (one_short k) at m

-- nor more numbers
pub column_short : (k at : ℕ) (m : List ℕ) → length (joined k (fields_in at m)) ≤ length m
column_short k at m = all_within (column_of k) (one_column_short k) at m

-- ---- how long the bytes in a message are

body_short : (c : Content) (kind end : ℕ) (s : List ℕ) → IsBody c kind end s → length (bytes_held c) ≤ length s
body_short c kind end s h = grind (arith, length-append)

abbrev ShorterThan : ℕ → Occurrence → Type 0
ShorterThan n o = length (bytes_held o.content) ≤ n

held_joined : (at : ℕ) (m : List ℕ) (os : List Occurrence) → Joins at m os → AllByRecursion (ShorterThan (length m)) os
held_joined at m [] h = tt
held_joined at m (o ∷ os) h =
    let whole : length m ≡ length h.0 + length h.1 = ap length h.2 ∙ length-append h.0 h.1 in
    let front : length h.0 ≡ length h.4.tag + length h.4.body = ap length h.4.whole ∙ length-append h.4.tag h.4.body in
    (omega (arith, body_short o.content h.4.kind (o.place + length h.4.tag) h.4.body h.4.holds, whole, front), all_weaker (ShorterThan (length h.1)) (ShorterThan (length m)) (λ o le. omega (arith, whole, le)) os (held_joined (at + length h.0) h.1 os h.5))

-- no longer than the message
pub held_short : (at : ℕ) (m : List ℕ) → AllByRecursion (λ o. length (bytes_held o.content) ≤ length m) (fields_in at m)
held_short at m =
    let c = is_cutting at m in
    let less : length c.front ≤ length m = omega (arith, ap length c.parts, length-append c.front c.left) in
    all_weaker (ShorterThan (length c.front)) (ShorterThan (length m)) (λ o le. omega (arith, less, le)) (fields_in at m) (held_joined at c.front (fields_in at m) c.joins)
