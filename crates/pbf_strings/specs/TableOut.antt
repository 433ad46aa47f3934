-- A string table that is being written: its texts in order of first use.
use Rattle.std.specs.Prelude.{◌≡◌, ℕ, Bool, true, ◌+◌, List, [], ◌∷◌, ◌++◌, if◌then◌else◌, length, slice_get, Some, Result, IsOk, IfOk, OnOk, OnErr}
use Rattle.std.specs.List.{list_any}
use Rattle.std.specs.Str.{bytes_eq}
use Rattle.pbf_wire.specs.Message.{Each, message}

-- the text is among them
abbrev pub has_text : List (List ℕ) → List ℕ → Bool
has_text texts text = list_any (bytes_eq text) texts

-- the texts after one more is used
abbrev pub with_text : List (List ℕ) → List ℕ → List (List ℕ)
with_text texts text = if has_text texts text then texts else texts ++ text ∷ []

-- the texts after these are used, one by one
abbrev pub texts_after : List (List ℕ) → List (List ℕ) → List (List ℕ)
texts_after texts [] = texts
texts_after texts (text ∷ used) = texts_after (with_text texts text) used

-- the place of the first text that is this one, or how many texts there are
abbrev pub place_in : List (List ℕ) → List ℕ → ℕ
place_in [] text = 0
place_in (first ∷ texts) text = if bytes_eq text first then 0 else 1 + place_in texts text

-- the index of a text: the empty text that each table begins with has 0
abbrev pub index_in : List (List ℕ) → List ℕ → ℕ
index_in texts text = place_in texts text + 1

-- all texts of the table that is written
abbrev pub table_of : List (List ℕ) → List (List ℕ)
table_of texts = [] ∷ texts

-- a text is given its index, for which it is added if it is new; or the texts are as they were, which no text that is there can cause
pub record GivesIndex {E : Type 0} (text : List ℕ) (old new : List (List ℕ)) (result : Result ℕ E) : Type 0 where
  pub texts : OnOk result (new ≡ with_text old text)
  pub index : IfOk result (λ index. index ≡ index_in new text)
  pub named : IfOk result (λ index. slice_get (table_of new) index ≡ Some text)
  pub known : has_text old text ≡ true → IsOk result
  pub err : OnErr result (new ≡ old)

-- the StringTable that is written
abbrev pub table_message : List (List ℕ) → List ℕ
table_message texts = message (Each 1 (table_of texts) ∷ [])

-- what a text takes: its bytes, and four for its entry
abbrev pub text_held : List ℕ → ℕ
text_held text = length text + 4
