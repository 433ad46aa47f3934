-- The lines that commands print of what they read and wrote.
use Rattle.std.specs.Prelude.{ℕ, List, [], ◌∷◌, ◌++◌, map, Bool, true, false, Option, Some, None, codes, decimal}
use Rattle.std.specs.List.{flat_map}
use Rattle.osm_text.specs.Digests.{digest_line, hex_byte}
use Rattle.sha2.specs.Sha256.{sha256}
use Rattle.pbf_block.specs.declared.counts.Counts.{Counts}
use Rattle.pbfcut_program.specs.declared.host.Screen.{Screen}
use Rattle.pbfcut_program.specs.Events.{Event, printed}

abbrev pub counts_text : Counts → List ℕ
counts_text c = codes "nodes " ++ decimal c.nodes ++ codes " ways " ++ decimal c.ways ++ codes " relations " ++ decimal c.relations ++ codes "\n"

abbrev pub unpacked_text : List ℕ → List ℕ
unpacked_text digest = codes "# unpacked " ++ flat_map hex_byte digest ++ codes "\n"

-- the digest of a file, and that of the file unpacked, if it is
abbrev pub file_lines : (digest : List ℕ) → (raw : Option (List ℕ)) → (path : List ℕ) → List (List ℕ)
file_lines digest None path = digest_line digest path ∷ []
file_lines digest (Some raw) path = digest_line digest path ∷ unpacked_text raw ∷ []

-- with `--digests`
abbrev pub check_lines : Bool → (digest : List ℕ) → Option (List ℕ) → (input : List ℕ) → List (List ℕ)
check_lines true digest raw input = file_lines digest raw input
check_lines false digest raw input = []

-- the same, and those of what OUT took, if it was hashed
abbrev pub done_lines : (known meaning : Option (List ℕ)) → (digest : List ℕ) → Option (List ℕ) → (input output : List ℕ) → List (List ℕ)
done_lines (Some known) meaning digest raw input output = file_lines digest raw input ++ file_lines known meaning output
done_lines None meaning digest raw input output = []

abbrev pub digest_if_asked : Bool → (written : List ℕ) → Option (List ℕ)
digest_if_asked true written = Some (sha256 written)
digest_if_asked false written = None

abbrev pub prints : Screen → List (List ℕ) → List Event
prints screen lines = map (λ line. printed screen line None) lines

-- ---- of several OUTs

-- the counts of one of them, and its path
abbrev pub named_counts_text : Counts → (output : List ℕ) → List ℕ
named_counts_text c output = codes "nodes " ++ decimal c.nodes ++ codes " ways " ++ decimal c.ways ++ codes " relations " ++ decimal c.relations ++ codes " " ++ output ++ codes "\n"

-- the digests of what it took, if it was hashed
abbrev pub known_lines : (known meaning : Option (List ℕ)) → (output : List ℕ) → List (List ℕ)
known_lines (Some known) meaning output = file_lines known meaning output
known_lines None meaning output = []

-- all lines of it
abbrev pub out_lines : Counts → (known meaning : Option (List ℕ)) → (output : List ℕ) → List (List ℕ)
out_lines counts known meaning output = named_counts_text counts output ∷ known_lines known meaning output
