-- The numbers of a column, packed or single.
use Rattle.std.specs.Prelude.{ℕ, zero, suc, ◌-◌, ◌==◌, if◌then◌else◌, List, [], ◌∷◌, map, Option, Some, None, Result, Ok, Err}
use Rattle.std.specs.List.{flat_map}
use Rattle.std.specs.Result.{ok_prefix}
use Rattle.pbf_wire.specs.declared.fault.Reason.{Reason}
use Rattle.pbf_wire.specs.Varint.{varint_at, shortest}
use Rattle.pbf_wire.specs.Occurrence.{Content, Number, Bytes, Occurrence}

-- a number, or the reason why the bytes can't be read on
abbrev pub Entry : Type 0
Entry = Result ℕ Reason

abbrev pub entries_from : Result (ℕ × ℕ) Reason → (ℕ → List Entry) → List Entry
entries_from (Ok front) more = Ok front.0 ∷ more (front.1 - 1)
entries_from (Err reason) more = Err reason ∷ []

unfoldable pub entries_past : ℕ → List ℕ → List Entry
entries_past skip [] = []
entries_past (suc skip) (b ∷ bs) = entries_past skip bs
entries_past zero (b ∷ bs) = entries_from (varint_at (b ∷ bs)) (λ skip. entries_past skip bs)

-- the varints of a packed column
abbrev pub entries : List ℕ → List Entry
entries bytes = entries_past 0 bytes

-- the numbers before the first that can't be read
abbrev pub read_entries : List Entry → List ℕ
read_entries entries = ok_prefix entries

abbrev pub entry_fault : List Entry → Option Reason
entry_fault [] = None
entry_fault (Ok v ∷ rest) = entry_fault rest
entry_fault (Err e ∷ rest) = Some e

-- the packed column of these numbers, each in its shortest spelling
abbrev pub packed : List ℕ → List ℕ
packed numbers = flat_map shortest numbers

-- each number beside the place of its occurrence
abbrev pub placed : ℕ → List ℕ → List (ℕ × ℕ)
placed place numbers = map (λ v. (v, place)) numbers

abbrev pub content_numbers : Content → List ℕ
content_numbers (Number v) = v ∷ []
content_numbers (Bytes bytes at) = read_entries (entries bytes)
content_numbers _ = []

abbrev pub column_of : ℕ → Occurrence → List (ℕ × ℕ)
column_of k o = if o.number == k then placed o.place (content_numbers o.content) else []

-- the numbers of all occurrences of the field k, joined, each beside the place of its occurrence
abbrev pub joined : ℕ → List Occurrence → List (ℕ × ℕ)
joined k os = flat_map (column_of k) os

-- only the numbers
abbrev pub column : ℕ → List Occurrence → List ℕ
column k os = map (λ p. p.0) (joined k os)
