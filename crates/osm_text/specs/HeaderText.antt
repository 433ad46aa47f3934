-- The lines of a header.
use Rattle.std.specs.Prelude.{ℕ, ℤ, List, [], ◌∷◌, ◌++◌, codes, Option, Some, None}
use Rattle.std.specs.List.{flat_map}
use Rattle.pbf_header.specs.declared.header.HeaderBox.{HeaderBox}
use Rattle.pbf_header.specs.Header.{HeaderSpec}
use Rattle.osm_text.specs.EntityText.{spaced, spaced_pair}
use Rattle.osm_text.specs.Quoted.{quoted}

-- `H`, the word and the text
abbrev pub text_line : List ℕ → List ℕ → List ℕ
text_line word text = codes "H " ++ word ++ 32 ∷ [] ++ quoted text ++ 10 ∷ []

abbrev pub text_lines : List ℕ → List (List ℕ) → List ℕ
text_lines word texts = flat_map (text_line word) texts

-- of what may be absent

abbrev pub maybe_text_line : List ℕ → Option (List ℕ) → List ℕ
maybe_text_line word None = []
maybe_text_line word (Some text) = text_line word text

abbrev pub maybe_number_line : List ℕ → Option ℤ → List ℕ
maybe_number_line word None = []
maybe_number_line word (Some number) = codes "H " ++ word ++ spaced number ++ 10 ∷ []

-- the edges: left, bottom, right, top
abbrev pub edges_text : HeaderBox → List ℕ
edges_text box = spaced_pair box.left box.bottom ++ spaced_pair box.right box.top

abbrev pub maybe_box_line : Option HeaderBox → List ℕ
maybe_box_line None = []
maybe_box_line (Some box) = codes "H bbox" ++ edges_text box ++ 10 ∷ []

-- ---- all lines, in three groups

-- the box and the features
unfoldable pub feature_text : HeaderSpec → List ℕ
feature_text h = maybe_box_line h.bbox ++ text_lines (codes "required") h.required ++ text_lines (codes "optional") h.optional

-- the program and the source
unfoldable pub origin_text : HeaderSpec → List ℕ
origin_text h = maybe_text_line (codes "program") h.program ++ maybe_text_line (codes "source") h.source

-- the replication fields
unfoldable pub change_text : HeaderSpec → List ℕ
change_text h =
    maybe_number_line (codes "timestamp") h.timestamp ++ maybe_number_line (codes "sequence") h.sequence
    ++ maybe_text_line (codes "url") h.url

abbrev pub header_text : HeaderSpec → List ℕ
header_text h = feature_text h ++ origin_text h ++ change_text h
