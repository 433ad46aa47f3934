-- What the occurrences of a message say of one field.
use Rattle.std.specs.Prelude.{ℕ, ◌==◌, if◌then◌else◌, List, [], Option, Some, None, unwrap_or, filter}
use Rattle.std.specs.List.{filter_map, last_or}
use Rattle.std.specs.Option.{option_map, option_map_or}
use Rattle.pbf_wire.specs.Occurrence.{Content, Number, Bytes, Occurrence}

-- the last occurrence of the field k
abbrev pub last_of : ℕ → List Occurrence → Option Occurrence
last_of k os = last_or None (filter (λ o. o.number == k) os)

-- the place of an occurrence, and its number
abbrev pub value_in : ℕ → Content → Option (ℕ × ℕ)
value_in place (Number v) = Some (place, v)
value_in _ _ = None

-- the numbers of the field k, each after the place of its occurrence
abbrev pub values : ℕ → List Occurrence → List (ℕ × ℕ)
values k os = filter_map (λ o. if o.number == k then value_in o.place o.content else None) os

-- the place of the last number of the field k, and the number
abbrev pub last_value : ℕ → List Occurrence → Option (ℕ × ℕ)
last_value k os = last_or None (values k os)

-- the last number of the field k
abbrev pub last_number : ℕ → List Occurrence → Option ℕ
last_number k os = option_map (λ p. p.1) (last_value k os)

abbrev pub bytes_in : Content → Option (List ℕ)
bytes_in (Bytes bytes at) = Some bytes
bytes_in _ = None

-- the bytes, and none if it is no bytes
abbrev pub bytes_held : Content → List ℕ
bytes_held c = unwrap_or (bytes_in c) []

-- the text of a field, and none if it is absent
abbrev pub occurrence_text : Option Occurrence → List ℕ
occurrence_text last = option_map_or (λ o. bytes_held o.content) last []

-- the bytes that an occurrence gives the field k
abbrev pub bytes_of : ℕ → Occurrence → Option (List ℕ)
bytes_of k o = if o.number == k then bytes_in o.content else None

-- the bytes of each occurrence of the field k, in order
abbrev pub each : ℕ → List Occurrence → List (List ℕ)
each k os = filter_map (bytes_of k) os
