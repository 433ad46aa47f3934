-- IN, opened for one pass after another, and returned.
use Rattle.std.proofs.Common.{◌≡◌, arith, ℕ, ◌+◌, List, [], ◌∷◌, ◌++◌, length, map, Option, ap, ◌∙◌, refl, subst, sym}
use Rattle.std.proofs.lemmas.List.{map_push}
use Rattle.pbf_frame.specs.declared.device.Feed as feed
use Rattle.pbfcut_program.specs.Devices.{AreFresh, CloseAll, Closes, IsFreshFeed}
use Rattle.pbfcut_program.specs.Events.{Event, opened, then_all, then_one, openings}
use Rattle.pbfcut_program.proofs.Beginning.{length_has}
use Rattle.pbfcut_program.proofs.Logging.{then_more}

openings_push : (path : List ℕ) (n : ℕ) (xs : List (Option (List ℕ))) (x : Option (List ℕ)) → openings path n (xs ++ x ∷ []) ≡ openings path n xs ++ opened path (n + length xs) x ∷ []
openings_push path n [] x = (let e : n ≡ n + 0 = omega arith in ap (λ k. opened path k x ∷ []) e)
openings_push path n (y ∷ ys) x =
    let e : n + 1 + length ys ≡ n + length (y ∷ ys) = omega arith in
    ap (λ l. opened path n y ∷ l) (openings_push path (n + 1) ys x ∙ ap (λ k. openings path (n + 1) ys ++ opened path k x ∷ []) e)

-- one pass more
pub opened_more : {F : Type 0} (f : F → Option (List ℕ)) (path : List ℕ) (l m n : Option (List Event)) (xs : List F) (x : F) (pass : ℕ) → m ≡ then_all l (openings path 1 (map f xs)) → n ≡ then_one m (opened path pass (f x)) → pass ≡ 1 + length xs → n ≡ then_all l (openings path 1 (map f (xs ++ x ∷ [])))
opened_more f path l m n xs x pass before one is = grind (arith, then_more l (openings path 1 (map f xs)) (opened path pass (f x) ∷ []), map_push f xs x, openings_push path 1 (map f xs) (f x), length_has f xs)

pub fresh_more : {F : Type 0} (f : feed.Ghosts F) (xs : List F) (x : F) → AreFresh f xs → IsFreshFeed f x → AreFresh f (xs ++ x ∷ [])
fresh_more f [] x fresh one = (one, tt)
fresh_more f (y ∷ ys) x fresh one = (fresh.0, fresh_more f ys x fresh.1 one)

pub closed_more : {F : Type 0} (f : feed.Ghosts F) (xs : List F) (x : F) (l m n : Option (List Event)) → CloseAll f xs l m → Closes f x m n → CloseAll f (xs ++ x ∷ []) l n
closed_more f [] x l m n same closes = (n, subst (λ b. Closes f x b n) same closes, refl)
closed_more f (y ∷ ys) x l m n all closes = (all.0, all.1, closed_more f ys x all.0 m n all.2 closes)

-- the same of feeds below others
pub closed_below : {F U : Type 0} (f : feed.Ghosts F) (below : U → F) (us : List U) (u : U) (x : F) (l m n : Option (List Event)) → CloseAll f (map below us) l m → x ≡ below u → Closes f x m n → CloseAll f (map below (us ++ u ∷ [])) l n
closed_below f below us u x l m n all is closes =
    subst (λ xs. CloseAll f xs l n) (sym (map_push below us u)) (closed_more f (map below us) (below u) l m n all (subst (λ y. Closes f y m n) is closes))
