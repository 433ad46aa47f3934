-- The printed form of a text.
use Rattle.std.specs.Prelude.{ℕ, ◌+◌, ◌/◌, ◌%◌, ◌==◌, Bool, ◌||◌, ◌&&◌, not, nat_lt, nat_le, if◌then◌else◌, List, [], ◌∷◌, ◌++◌, codes}
use Rattle.std.specs.List.{flat_map}
use Rattle.std.specs.Str.{is_utf8}

-- a digit of base 16, in lower case
abbrev pub hex_digit : ℕ → ℕ
hex_digit d = if nat_lt d 10 then 48 + d else 87 + d

-- a mark and two digits
abbrev pub escaped : (mark : List ℕ) → ℕ → List ℕ
escaped mark b = mark ++ hex_digit (b / 16) ∷ hex_digit (b % 16) ∷ []

-- a control byte, or a byte past ASCII in a text that isn't UTF-8
abbrev pub has_no_form : Bool → ℕ → Bool
has_no_form utf8 b = nat_lt b 32 || b == 127 || (nat_le 128 b && not utf8)

-- one byte of a text: `"` and `\` after a backslash
abbrev pub quoted_byte : (mark : List ℕ) → Bool → ℕ → List ℕ
quoted_byte mark utf8 b =
    if b == 34 || b == 92 then 92 ∷ b ∷ []
    else (if has_no_form utf8 b then escaped mark b
    else b ∷ [])

abbrev pub quoted_by : (mark : List ℕ) → List ℕ → List ℕ
quoted_by mark text = 34 ∷ [] ++ flat_map (quoted_byte mark (is_utf8 text)) text ++ 34 ∷ []

-- as lines have it
abbrev pub quoted : List ℕ → List ℕ
quoted text = quoted_by (codes "\\x") text

-- as JSON has it: a byte that has no form becomes the character of its number
abbrev pub json_string : List ℕ → List ℕ
json_string text = quoted_by (codes "\\u00") text
