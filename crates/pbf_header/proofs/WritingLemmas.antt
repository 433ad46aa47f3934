-- A header is written slot by slot.
use Rattle.std.proofs.Common.{◌≡◌, ℕ, ◌+◌, ◌<◌, ◌≤◌, ℤ, List, [], ◌∷◌, ◌++◌, length, map, drop, get_or, Some, sym, ap, ◌∙◌, append_assoc, w64, to_z, of_z}
use Rattle.std.proofs.lemmas.List.{at_drop_more, drop_all}
use Rattle.std.proofs.lemmas.Int.{to_z-of_z}
use mir.Val.{SFits}
use Rattle.pbf_wire.specs.Signed.{zigzag}
use Rattle.pbf_wire.specs.Message.{Scalar, Each, slot_bytes}
use Rattle.pbf_wire.proofs.WritingLemmas.{each_joined, each_none, nothing_put}
use Rattle.std.specs.Global.{Vec}
use Rattle.pbf_header.specs.Header.{text_of}

-- one more text of a field is written
pub text_put : (number : ℕ) (texts : List (Vec ℕ)) (i : ℕ) (d : Vec ℕ) (old new all : List ℕ) → i < length texts → new ≡ old ++ slot_bytes (Each number ((get_or texts i d).items ∷ []))
    → old ++ slot_bytes (Each number (map text_of (drop i texts))) ≡ all → new ++ slot_bytes (Each number (map text_of (drop (i + 1) texts))) ≡ all
text_put number texts i d old new all some e h =
    let more = map text_of (drop (i + 1) texts) in
    rw e (append_assoc old _ _ ∙ ap (λ w. old ++ w) (sym (each_joined number ((get_or texts i d).items ∷ []) more)) ∙ (sym (at_drop_more (λ ts. old ++ slot_bytes (Each number (map text_of ts))) texts i d some) ∙ h))

pub texts_put : (number : ℕ) (texts : List (Vec ℕ)) (i : ℕ) (new all : List ℕ) → length texts ≤ i → new ++ slot_bytes (Each number (map text_of (drop i texts))) ≡ all → new ≡ all
texts_put number texts i new all end h = nothing_put (Each number []) new (each_none number) ∙ (ap (λ ts. new ++ slot_bytes (Each number (map text_of ts))) (sym (drop_all i texts end)) ∙ h)

-- what the code computes on 64 bits
pub edge_put : (number value : ℕ) (edge : ℤ) (old new : List ℕ) → SFits w64 edge → value ≡ zigzag (to_z w64 (of_z w64 edge)) → new ≡ old ++ slot_bytes (Scalar number (Some value)) → new ≡ old ++ slot_bytes (Scalar number (Some (zigzag edge)))
edge_put number value edge old new fits v e = e ∙ ap (λ (n : ℕ). old ++ slot_bytes (Scalar number (Some n))) (v ∙ ap zigzag (to_z-of_z w64 edge fits))
