-- The line of a file and its digest, in the form of `sha256sum`.
use Rattle.std.specs.Prelude.{ℕ, ◌/◌, ◌%◌, ◌==◌, Bool, ◌||◌, if◌then◌else◌, List, [], ◌∷◌, ◌++◌}
use Rattle.std.specs.List.{flat_map, list_any}
use Rattle.osm_text.specs.Quoted.{hex_digit}

abbrev pub hex_byte : ℕ → List ℕ
hex_byte b = hex_digit (b / 16) ∷ hex_digit (b % 16) ∷ []

-- a backslash, a line feed, or a carriage return
abbrev pub is_escaped : ℕ → Bool
is_escaped b = b == 92 || (b == 10 || b == 13)

-- one byte of a path
abbrev pub path_byte : ℕ → List ℕ
path_byte b =
    if b == 92 then 92 ∷ 92 ∷ []
    else (if b == 10 then 92 ∷ 110 ∷ []
    else (if b == 13 then 92 ∷ 114 ∷ []
    else b ∷ []))

-- a backslash before the line of a path with escapes
abbrev pub escape_mark : List ℕ → List ℕ
escape_mark path = if list_any is_escaped path then 92 ∷ [] else []

abbrev pub digest_line : List ℕ → List ℕ → List ℕ
digest_line digest path =
    escape_mark path ++ flat_map hex_byte digest ++ 32 ∷ 32 ∷ [] ++ flat_map path_byte path ++ 10 ∷ []
