-- What a JSON object has of a header: each member ends with a comma, since others follow.
use Rattle.std.specs.Prelude.{ℕ, ℤ, List, [], ◌∷◌, ◌++◌, codes, Option, Some, None}
use Rattle.std.specs.Fmt.{signed_decimal}
use Rattle.std.specs.List.{flat_map}
use Rattle.pbf_header.specs.declared.header.HeaderBox.{HeaderBox}
use Rattle.pbf_header.specs.Header.{HeaderSpec}
use Rattle.osm_text.specs.Quoted.{json_string}

abbrev pub json_member : (word value : List ℕ) → List ℕ
json_member word value = codes "\"" ++ word ++ codes "\":" ++ value ++ codes ","

-- texts with commas between
abbrev pub listed : List (List ℕ) → List ℕ
listed [] = []
listed (text ∷ more) = json_string text ++ flat_map (λ next. 44 ∷ json_string next) more

abbrev pub list_member : (word : List ℕ) → List (List ℕ) → List ℕ
list_member word texts = json_member word (codes "[" ++ listed texts ++ codes "]")

-- of what may be absent

abbrev pub maybe_text_member : (word : List ℕ) → Option (List ℕ) → List ℕ
maybe_text_member word None = []
maybe_text_member word (Some text) = json_member word (json_string text)

abbrev pub maybe_number_member : (word : List ℕ) → Option ℤ → List ℕ
maybe_number_member word None = []
maybe_number_member word (Some number) = json_member word (signed_decimal number)

unfoldable pub number_pair : ℤ → ℤ → List ℕ
number_pair first second = signed_decimal first ++ codes "," ++ signed_decimal second

-- the edges: left, bottom, right, top
abbrev pub edges_value : HeaderBox → List ℕ
edges_value box =
    codes "[" ++ number_pair box.left box.bottom ++ codes ","
    ++ number_pair box.right box.top ++ codes "]"

abbrev pub maybe_box_member : Option HeaderBox → List ℕ
maybe_box_member None = []
maybe_box_member (Some box) = json_member (codes "bbox") (edges_value box)

-- all members, by the words of the lines and in their order
unfoldable pub header_members : HeaderSpec → List ℕ
header_members h =
    maybe_box_member h.bbox
    ++ list_member (codes "required") h.required
    ++ list_member (codes "optional") h.optional
    ++ maybe_text_member (codes "program") h.program
    ++ maybe_text_member (codes "source") h.source
    ++ maybe_number_member (codes "timestamp") h.timestamp
    ++ maybe_number_member (codes "sequence") h.sequence
    ++ maybe_text_member (codes "url") h.url
