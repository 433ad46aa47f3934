-- No relation is of no type; and the types that a text names.
use Rattle.std.proofs.Common.{◌≡◌, false, if◌then◌else◌, ℕ, List, [], ◌∷◌, ◌++◌, Some, None, length, map, refl, sym, ap, ◌∙◌, arith}
use Rattle.std.proofs.lemmas.List.{append_assoc, map-append}
use Rattle.std.specs.Global.{Vec}
use Rattle.osm_box.specs.Degrees.{cut_of}
use Rattle.osm_box.proofs.CutLemmas.{first_piece, last_piece, pieces_at}
use Rattle.osm_entity.specs.Entity.{TagSpec}
use Rattle.osm_ways.specs.Selection.{none_whole}
use Rattle.osm_ways.specs.Whole.{has_type, name_of}

pub none_typed : (tags : List TagSpec) → has_type [] tags ≡ false
none_typed [] = refl
none_typed (tag ∷ tags) = grind (arith, none_typed tags)

pub empty_typed : (names : List (Vec ℕ)) (tags : List TagSpec) → length names ≡ 0 → has_type (map name_of names) tags ≡ false
empty_typed [] tags e = none_typed tags
empty_typed (name ∷ names) tags e = absurd (cc)

pub empty_wants : (names : List (Vec ℕ)) → names ≡ [] → (λ tags. has_type (map name_of names) tags) ≡ none_whole
empty_wants names e = λ i tags. (ap (λ (ns : List (Vec ℕ)). has_type (map name_of ns) tags) e ∙ none_typed tags) i

-- ---- the names of a text

module _ (names : List (Vec ℕ)) (name : Vec ℕ) (text piece more : List ℕ) (all : List (List ℕ)) where
  pub name_taken : name_of name ≡ piece → cut_of 44 text ≡ Some (piece, more) → map name_of names ++ pieces_at 44 text ≡ all → map name_of (names ++ name ∷ []) ++ pieces_at 44 more ≡ all
  name_taken is e so_far =
      ap (λ (l : List (List ℕ)). l ++ pieces_at 44 more) (map-append name_of names (name ∷ []))
      ∙ append_assoc (map name_of names) (name_of name ∷ []) (pieces_at 44 more)
      ∙ ap (λ (l : List (List ℕ)). map name_of names ++ l) (ap (λ (n : List ℕ). n ∷ pieces_at 44 more) is ∙ sym (first_piece 44 text piece more e)) ∙ so_far

module _ (names : List (Vec ℕ)) (name : Vec ℕ) (text : List ℕ) (all : List (List ℕ)) where
  pub last_name : name_of name ≡ text → cut_of 44 text ≡ None → map name_of names ++ pieces_at 44 text ≡ all → map name_of (names ++ name ∷ []) ≡ all
  last_name is e so_far = let h = last_piece 44 text e in grind (arith, h, is, so_far, map-append name_of names (name ∷ []))
