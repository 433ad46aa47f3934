-- Faults of messages as lists: the words that the judgement of every message is put together from.
use Rattle.std.specs.Prelude.{ℕ, ℤ, pos, negsuc, ◌%◌, ◌^◌, ◌==◌, if◌then◌else◌, Bool, true, false, not, nat_lt, List, [], ◌∷◌, ◌++◌, length, map, drop, filter, Option, Some, None, Ok, Err}
use Rattle.std.specs.List.{flat_map, list_any, zip}
use Rattle.std.specs.Option.{option_map_or}
use Rattle.pbf_wire.specs.declared.fault.Fault.{Fault}
use Rattle.pbf_wire.specs.declared.fault.Reason.{Reason}
use Rattle.pbf_wire.specs.declared.fault.Reason.TheVariants.{Missing, TwiceMessage, StringIndex, OutOfRange}
use Rattle.pbf_wire.specs.declared.kind.Kind.{Kind}
use Rattle.pbf_wire.specs.declared.message.Message.{Message}
use Rattle.pbf_wire.specs.Occurrence.{Content, Number, Bytes, Occurrence, Item, items, found}
use Rattle.pbf_wire.specs.Reading.{last_of, last_value}
use Rattle.pbf_wire.specs.Signed.{delta_in, is_within}
use Rattle.pbf_wire.specs.Sums.{sums}
use Rattle.pbf_wire.specs.Wire.{kind_of, reason_in}

abbrev pub fault : ℕ → Reason → Fault
fault place reason = record { offset = place; reason = reason }

-- the fault, if the test holds
abbrev pub fault_where : Bool → ℕ → Reason → List Fault
fault_where true place reason = fault place reason ∷ []
fault_where false place reason = []

-- ---- embedded messages

-- what an embedded message gives, by where its bytes begin and its bytes; nothing for another content
abbrev pub inside : {X : Type 0} → (ℕ → List ℕ → List X) → Content → List X
inside f (Bytes bytes at) = f at bytes
inside _ _ = []

-- what a message that the field k holds gives, by its place, where its bytes begin, and its bytes
abbrev pub entered : {X : Type 0} → ℕ → (ℕ → ℕ → List ℕ → List X) → Occurrence → List X
entered k f o = if o.number == k then inside (f o.place) o.content else []

-- the occurrences in a message
abbrev pub fields_in : ℕ → List ℕ → List Occurrence
fields_in at m = found (items at m)

abbrev pub found_in : Message → List Occurrence
found_in m = fields_in m.at m.bytes.now

abbrev pub fields_of : Option Occurrence → List Occurrence
fields_of last = option_map_or (λ o. inside fields_in o.content) last []

-- the occurrences in the last message that the field k holds, and none if there is no such field
abbrev pub embedded : ℕ → List Occurrence → List Occurrence
embedded k os = fields_of (last_of k os)

-- ---- the wire form of a message and of those in it

-- a fault ends the reading of its message
abbrev pub or_more : ℕ → Option Reason → List Fault → List Fault
or_more place (Some reason) more = fault place reason ∷ []
or_more place None more = more

-- the faults of the embedded messages that come before the message's own fault, and that one
abbrev pub message_faults : List (ℕ × Kind) → (Occurrence → List Fault) → List Item → List Fault
message_faults kinds inner [] = []
message_faults kinds inner (Ok o ∷ rest) = or_more o.place (reason_in (kind_of kinds o.number) o.content) (inner o ++ message_faults kinds inner rest)
message_faults kinds inner (Err e ∷ rest) = e ∷ []

-- a message without embedded ones
abbrev pub leaf_faults : List (ℕ × Kind) → ℕ → ℕ → List ℕ → List Fault
leaf_faults kinds place at m = message_faults kinds (λ o. []) (items at m)

-- a message with such messages at the field k
abbrev pub nested_faults : List (ℕ × Kind) → ℕ → List (ℕ × Kind) → ℕ → ℕ → List ℕ → List Fault
nested_faults kinds k inner place at m = message_faults kinds (entered k (leaf_faults inner)) (items at m)

-- ---- structure

-- a required field is absent from the message at this place
abbrev pub missing : ℕ → ℕ → List Occurrence → List Fault
missing k place os = fault_where (not (list_any (λ o. o.number == k) os)) place (Missing k)

-- each occurrence after the first
abbrev pub twice : ℕ → List Occurrence → List Fault
twice k os = map (λ o. fault o.place TwiceMessage) (drop 1 (filter (λ o. o.number == k) os))

-- what ends a number of a column: a single one ends itself, and of packed ones the bytes below 128 do
abbrev pub ends_in : Content → List ℕ
ends_in (Number v) = 0 ∷ []
ends_in (Bytes bytes at) = filter (λ b. nat_lt b 128) bytes
ends_in _ = []

abbrev pub ends_of : ℕ → Occurrence → List ℕ
ends_of k o = if o.number == k then ends_in o.content else []

-- how many numbers the column k has: one for each single number, and one for each byte that ends a varint
abbrev pub column_count : ℕ → List Occurrence → ℕ
column_count k os = length (flat_map (ends_of k) os)

-- ---- values, each beside the place of its occurrence

-- the low 32 bits of a number aren't below the limit
abbrev pub below_fault : Reason → ℕ → ℕ × ℕ → List Fault
below_fault reason limit x = fault_where (not (nat_lt (x.0 % 2 ^ 32) limit)) x.1 reason

-- a table of this length has no text for a number
abbrev pub index_faults : ℕ → List (ℕ × ℕ) → List Fault
index_faults limit entries = flat_map (below_fault StringIndex limit) entries

-- a number isn't strictly between -limit and limit
abbrev pub range_fault : ℤ → ℕ → ℤ → List Fault
range_fault limit place n = fault_where (not (is_within limit n)) place OutOfRange

-- the values of a column of differences, each beside the place of its occurrence
abbrev pub placed_sums : Bool → List (ℕ × ℕ) → List (ℤ × ℕ)
placed_sums narrow entries = zip (sums (map (λ x. delta_in narrow x.0) entries)) (map (λ x. x.1) entries)

-- the values of a column of differences that aren't good, for a reason
abbrev pub faults_of_sums : (ℤ → Bool) → Reason → Bool → List (ℕ × ℕ) → List Fault
faults_of_sums is_good reason narrow entries = flat_map (λ v. fault_where (not (is_good v.0)) v.1 reason) (placed_sums narrow entries)

abbrev pub sum_faults : ℤ → Bool → List (ℕ × ℕ) → List Fault
sum_faults limit narrow entries = faults_of_sums (is_within limit) OutOfRange narrow entries

abbrev pub is_index : ℕ → ℤ → Bool
is_index limit (pos n) = nat_lt n limit
is_index limit (negsuc n) = false

-- strictly between -limit and limit or, of values without a sign, an index below the limit
abbrev pub is_allowed : Bool → ℕ → ℤ → Bool
is_allowed signed limit n = if signed then is_within (pos limit) n else is_index limit n

-- the same of values that are indexes
abbrev pub index_sum_faults : ℕ → List (ℕ × ℕ) → List Fault
index_sum_faults limit entries = faults_of_sums (is_index limit) StringIndex true entries

abbrev pub of_value : {X : Type 0} → (ℕ → ℕ → List X) → Option (ℕ × ℕ) → List X
of_value f last = option_map_or (λ p. f p.0 p.1) last []

-- what the last number of the field k gives, with its place
abbrev pub in_last : {X : Type 0} → ℕ → (ℕ → ℕ → List X) → List Occurrence → List X
in_last k f os = of_value f (last_value k os)
