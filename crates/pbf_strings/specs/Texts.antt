-- The texts of a StringTable.
use Rattle.std.specs.Prelude.{ℕ, ◌<◌, ◌≤◌, max, List, [], ◌∷◌, length, drop, nat_lt, if◌then◌else◌, Option, Some, None, Ok, Err, unwrap_or, slice_get, vec_len}
use Rattle.std.specs.Option.{option_or}
use Rattle.std.specs.Global.{Vec}
use Rattle.pbf_wire.specs.declared.fault.Fault.{Fault}
use Rattle.pbf_wire.specs.declared.fault.Reason.TheVariants.{TooManyStrings}
use Rattle.pbf_wire.specs.declared.kind.Kind.{Kind}
use Rattle.pbf_wire.specs.declared.kind.Kind.TheVariants as kind
use Rattle.pbf_wire.specs.Occurrence.{Item, items, found}
use Rattle.pbf_wire.specs.Reading.{bytes_held, each}
use Rattle.pbf_wire.specs.Wire.{wire}
use Rattle.pbf_strings.specs.declared.table.TheConstants.{MOST_TEXTS}
use Rattle.pbf_wire.specs.declared.limits.TheConstants.{RAW_LIMIT}

-- the texts: text i is the i-th occurrence of field 1, from 0
abbrev pub texts : List ℕ → List (List ℕ)
texts message = each 1 (found (items 0 message))

-- text i, or the empty text if there is none
abbrev pub text : List (List ℕ) → ℕ → List ℕ
text table i = unwrap_or (slice_get table i) []

-- the length of the longest text
abbrev pub longest : List (List ℕ) → ℕ
longest [] = 0
longest (first ∷ rest) = max (length first) (longest rest)

abbrev pub table_kinds : List (ℕ × Kind)
table_kinds = (1, kind.Bytes) ∷ []

-- there are too many texts
abbrev pub count_fault : ℕ → List ℕ → Option Fault
count_fault place message = if nat_lt MOST_TEXTS (length (texts message)) then Some (record { offset = place; reason = TooManyStrings }) else None

-- the first wire fault, otherwise that of the count
abbrev pub table_fault : ℕ → ℕ → List ℕ → Option Fault
table_fault at place message = option_or (wire table_kinds (items at message)) (count_fault place message)

-- ---- as the table holds them

abbrev pub first_text : List Item → List ℕ
first_text [] = []
first_text (Ok o ∷ rest) = bytes_held o.content
first_text (Err e ∷ rest) = []

-- the text of the field that begins at a place
unfoldable pub text_at : List ℕ → ℕ → List ℕ
text_at message place = first_text (items place (drop place message))

-- the message and its texts are no more than a block may have
pub record IsSmall (message : List ℕ) (places : Vec ℕ) : Type 0 where
  pub short : length message < RAW_LIMIT
  pub few : vec_len places ≤ MOST_TEXTS
