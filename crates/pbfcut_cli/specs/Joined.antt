-- The words as `clap` gets them: `--box` and a box that begins with `-` are one word, and `help` is an option.
use Rattle.std.specs.Prelude.{ℕ, Bool, false, List, [], ◌∷◌, ◌++◌, codes, nat_eq, nat_le, ◌&&◌, ◌||◌, if◌then◌else◌}
use Rattle.std.specs.Str.{bytes_eq}
use Rattle.clap.specs.Words.{Text}

-- a digit, or a point
abbrev pub begins_number : ℕ → Bool
begins_number byte = nat_eq byte 46 || nat_le 48 byte && nat_le byte 57

-- it begins with `-` and a digit or a point, as a box west of Greenwich does
abbrev pub begins_below_zero : Text → Bool
begins_below_zero (sign ∷ byte ∷ rest) = nat_eq sign 45 && begins_number byte
begins_below_zero _ = false

-- `--box`, or one of its other names
abbrev pub names_box : Text → Bool
names_box word = bytes_eq word (codes "--box") || (bytes_eq word (codes "--bbox") || bytes_eq word (codes "-b"))

-- the first word names the box, and the second one begins so
abbrev pub begins_with_box : List Text → Bool
begins_with_box (word ∷ edges ∷ rest) = names_box word && begins_below_zero edges
begins_with_box _ = false

-- the name and such a word are one word, as `--box=-0.5,51.25,0.3,51.7`
unfoldable pub box_joined : List Text → List Text
box_joined (word ∷ edges ∷ rest) = if begins_with_box (word ∷ edges ∷ rest)
    then (word ++ (codes "=" ++ edges)) ∷ box_joined rest
    else word ∷ box_joined (edges ∷ rest)
box_joined words = words

-- `help`, as the first word, is `--help` as the last one
abbrev pub normalized : List Text → List Text
normalized (word ∷ rest) = if bytes_eq word (codes "help")
    then box_joined rest ++ codes "--help" ∷ []
    else box_joined (word ∷ rest)
normalized [] = []
