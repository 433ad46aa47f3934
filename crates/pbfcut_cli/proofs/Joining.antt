-- The first of the words, joined and not.
use Rattle.std.proofs.Common.{◌≡◌, refl, arith, List, [], ◌∷◌, ◌++◌, codes, length, map, true, false}
use Rattle.clap.specs.Words.{Text}
use Rattle.pbfcut_cli.specs.Joined.{begins_with_box, box_joined}

two : (word : Text) (edges : Text) (rest : List Text) → begins_with_box (word ∷ edges ∷ rest) ≡ true
    → box_joined (word ∷ edges ∷ rest) ≡ (word ++ (codes "=" ++ edges)) ∷ box_joined rest
unfolding box_joined
two word edges rest e = rw e refl

-- `--box` and its box
pub joined_two : (word : Text) (after : List Text) (edges : Text) (rest : List Text) → after ≡ edges ∷ rest
    → begins_with_box (word ∷ after) ≡ true → box_joined (word ∷ after) ≡ (word ++ (codes "=" ++ edges)) ∷ box_joined rest
joined_two word after edges rest parts e = grind (arith, two word edges rest (rw parts at e))

-- a word that stays as it is
pub joined_one : (word : Text) (rest : List Text) → begins_with_box (word ∷ rest) ≡ false
    → box_joined (word ∷ rest) ≡ word ∷ box_joined rest
unfolding box_joined
joined_one word rest h2 = grind arith

-- nothing is left
pub joined_none : {A : Type 0} (f : A → Text) (rest : List A) → length rest ≡ 0 → box_joined (map f rest) ≡ []
unfolding box_joined
joined_none f [] e = refl
joined_none f (word ∷ rest) e = absurd (omega (arith, e))
