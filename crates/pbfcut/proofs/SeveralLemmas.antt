-- Lists that go together, place by place.
use Rattle.std.proofs.Common.{◌≡◌, inl, inr, ℕ, ◌+◌, List, [], ◌∷◌, ◌++◌, length, length-append, append-nil, take, drop, refl, sym, ap, subst, ◌∙◌, arith}
use Rattle.std.specs.Prelude.{Result, if◌then◌else◌, is_ok}
use Rattle.std.specs.Result.{IsOk}
use Rattle.std.specs.List.{AllByRecursion, AllZip}
use Rattle.pbf_pass.proofs.EachLemmas as each
use Rattle.pbfcut.specs.Several.{AllThree, AnyZip, OneStopped}

-- a list that is written back whole
pub all_back : {T : Type 0} (n : ℕ) (olds news : List T) → n ≡ length olds → length news ≡ length olds → take n (news ++ drop (length news) olds) ≡ news
all_back n olds news is same = each.all_back n olds news is same

-- what a push with room leaves
pub pushed : {T E X : Type 0} (r : Result T E) (more same : List X) → IsOk r → (if is_ok r then more else same) ≡ more
pushed r more same ok = grind arith

pub all_less : {X : Type 0} (P Q : X → Type 0) → ((x : X) → P x → Q x) → (xs : List X) → AllByRecursion P xs → AllByRecursion Q xs
all_less P Q h [] all = tt
all_less P Q h (x ∷ xs) all = (h x all.0, all_less P Q h xs all.1)

pub all_units : {X : Type 0} (xs : List X) → AllByRecursion (λ x. Unit {0}) xs
all_units [] = tt
all_units (x ∷ xs) = (tt, all_units xs)

-- ---- two lists

pub zip_same : {X : Type 0} (R : X → X → Type 0) → ((x : X) → R x x) → (xs : List X) → AllZip R xs xs
zip_same R h [] = tt
zip_same R h (x ∷ xs) = (h x, zip_same R h xs)

pub zip_more : {X Y : Type 0} (R : X → Y → Type 0) (xs : List X) (ys : List Y) (x : X) (y : Y) → AllZip R xs ys → R x y → AllZip R (xs ++ x ∷ []) (ys ++ y ∷ [])
zip_more R [] [] x y all one = (one, tt)
zip_more R (a ∷ xs) (b ∷ ys) x y all one = (all.0, zip_more R xs ys x y all.1 one)
zip_more R [] (b ∷ ys) x y all one = absurd all
zip_more R (a ∷ xs) [] x y all one = absurd all

pub zip_length : {X Y : Type 0} (R : X → Y → Type 0) (xs : List X) (ys : List Y) → AllZip R xs ys → length ys ≡ length xs
zip_length R [] [] all = refl
zip_length R (x ∷ xs) (y ∷ ys) all = omega (arith, zip_length R xs ys all.1)
zip_length R [] (y ∷ ys) all = absurd all
zip_length R (x ∷ xs) [] all = absurd all

pub zip_then : {X Y Z : Type 0} (R : X → Y → Type 0) (Q : Y → Z → Type 0) (P : X → Z → Type 0) → ((x : X) (y : Y) (z : Z) → R x y → Q y z → P x z) → (xs : List X) (ys : List Y) (zs : List Z) → AllZip R xs ys → AllZip Q ys zs → AllZip P xs zs
zip_then R Q P h [] [] [] all more = tt
zip_then R Q P h (x ∷ xs) (y ∷ ys) (z ∷ zs) all more = (h x y z all.0 more.0, zip_then R Q P h xs ys zs all.1 more.1)
zip_then R Q P h [] [] (z ∷ zs) all more = absurd more
zip_then R Q P h (x ∷ xs) (y ∷ ys) [] all more = absurd more
zip_then R Q P h [] (y ∷ ys) zs all more = absurd all
zip_then R Q P h (x ∷ xs) [] zs all more = absurd all

pub zip_weaker : {X Y : Type 0} (R Q : X → Y → Type 0) → ((x : X) (y : Y) → R x y → Q x y) → (xs : List X) (ys : List Y) → AllZip R xs ys → AllZip Q xs ys
zip_weaker R Q h [] [] all = tt
zip_weaker R Q h (x ∷ xs) (y ∷ ys) all = (h x y all.0, zip_weaker R Q h xs ys all.1)
zip_weaker R Q h [] (y ∷ ys) all = absurd all
zip_weaker R Q h (x ∷ xs) [] all = absurd all

-- what holds of the first ones holds of the others
pub zip_right : {X Y : Type 0} (R : X → Y → Type 0) (P : X → Type 0) (Q : Y → Type 0) → ((x : X) (y : Y) → R x y → P x → Q y) → (xs : List X) (ys : List Y) → AllZip R xs ys → AllByRecursion P xs → AllByRecursion Q ys
zip_right R P Q h [] [] all ps = tt
zip_right R P Q h (x ∷ xs) (y ∷ ys) all ps = (h x y all.0 ps.0, zip_right R P Q h xs ys all.1 ps.1)
zip_right R P Q h [] (y ∷ ys) all ps = absurd all
zip_right R P Q h (x ∷ xs) [] all ps = absurd all

-- beside what holds of the first ones
pub zip_with : {X Y : Type 0} (P : X → Type 0) (R Q : X → Y → Type 0) → ((x : X) (y : Y) → P x → R x y → Q x y) → (xs : List X) (ys : List Y) → AllByRecursion P xs → AllZip R xs ys → AllZip Q xs ys
zip_with P R Q h [] [] ps all = tt
zip_with P R Q h (x ∷ xs) (y ∷ ys) ps all = (h x y ps.0 all.0, zip_with P R Q h xs ys ps.1 all.1)
zip_with P R Q h [] (y ∷ ys) ps all = absurd all
zip_with P R Q h (x ∷ xs) [] ps all = absurd all

-- two facts of two lists are one
pub zip_both : {X Y : Type 0} (R Q P : X → Y → Type 0) → ((x : X) (y : Y) → R x y → Q x y → P x y) → (xs : List X) (ys : List Y) → AllZip R xs ys → AllZip Q xs ys → AllZip P xs ys
zip_both R Q P h [] [] all more = tt
zip_both R Q P h (x ∷ xs) (y ∷ ys) all more = (h x y all.0 more.0, zip_both R Q P h xs ys all.1 more.1)
zip_both R Q P h [] (y ∷ ys) all more = absurd all
zip_both R Q P h (x ∷ xs) [] all more = absurd all

-- what holds under a premise
pub zip_when : {X Y I : Type 0} (K : I → Type 0) (S : X → Y → Type 0) (R : I → X → Y → Type 0) (xs : List X) (ys : List Y) → AllZip S xs ys → ((i : I) → K i → AllZip (R i) xs ys) → AllZip (λ x y. (i : I) → K i → R i x y) xs ys
zip_when K S R [] [] all h = tt
zip_when K S R (x ∷ xs) (y ∷ ys) all h = (λ i k. (h i k).0, zip_when K S R xs ys all.1 (λ i k. (h i k).1))
zip_when K S R [] (y ∷ ys) all h = absurd all
zip_when K S R (x ∷ xs) [] all h = absurd all

-- ---- three lists

pub three_more : {X Y Z : Type 0} (R : X → Y → Z → Type 0) (xs : List X) (ys : List Y) (zs : List Z) (x : X) (y : Y) (z : Z) → AllThree R xs ys zs → R x y z → AllThree R (xs ++ x ∷ []) (ys ++ y ∷ []) (zs ++ z ∷ [])
three_more R [] [] [] x y z all one = (one, tt)
three_more R (a ∷ xs) (b ∷ ys) (c ∷ zs) x y z all one = (all.0, three_more R xs ys zs x y z all.1 one)
three_more R [] [] (c ∷ zs) x y z all one = absurd all
three_more R [] (b ∷ ys) zs x y z all one = absurd all
three_more R (a ∷ xs) [] zs x y z all one = absurd all
three_more R (a ∷ xs) (b ∷ ys) [] x y z all one = absurd all

pub three_length : {X Y Z : Type 0} (R : X → Y → Z → Type 0) (xs : List X) (ys : List Y) (zs : List Z) → AllThree R xs ys zs → length zs ≡ length ys
three_length R [] [] [] all = refl
three_length R (x ∷ xs) (y ∷ ys) (z ∷ zs) all = omega (arith, three_length R xs ys zs all.1)
three_length R [] [] (z ∷ zs) all = absurd all
three_length R [] (y ∷ ys) zs all = absurd all
three_length R (x ∷ xs) [] zs all = absurd all
three_length R (x ∷ xs) (y ∷ ys) [] all = absurd all

pub three_length_first : {X Y Z : Type 0} (R : X → Y → Z → Type 0) (xs : List X) (ys : List Y) (zs : List Z) → AllThree R xs ys zs → length xs ≡ length ys
three_length_first R [] [] [] all = refl
three_length_first R (x ∷ xs) (y ∷ ys) (z ∷ zs) all = omega (arith, three_length_first R xs ys zs all.1)
three_length_first R [] [] (z ∷ zs) all = absurd all
three_length_first R [] (y ∷ ys) zs all = absurd all
three_length_first R (x ∷ xs) [] zs all = absurd all
three_length_first R (x ∷ xs) (y ∷ ys) [] all = absurd all

none_left : {X : Type 0} (xs rest all : List X) → xs ++ rest ≡ all → length all ≡ length xs → xs ≡ all
none_left xs [] all is same = sym (append-nil xs) ∙ is
none_left xs (x ∷ rest) all is same = (let bad : ⊥ = omega (arith, ap length is, same, length-append xs (x ∷ rest)) in absurd bad)

-- at the end of a loop over the second list nothing is left of the first
pub all_done : {X Y Z : Type 0} (R : X → Y → Z → Type 0) (xs rest all : List X) (ys yall : List Y) (zs : List Z) → ys ≡ yall → xs ++ rest ≡ all → length all ≡ length yall → AllThree R xs ys zs → AllThree R all yall zs
all_done R xs rest all ys yall zs ended is same so_far =
    let first : xs ≡ all = none_left xs rest all is (omega (arith, same, ap length ended, three_length_first R xs ys zs so_far)) in
    subst (λ l. AllThree R l yall zs) first (subst (λ l. AllThree R xs l zs) ended so_far)

pub three_then : {X Y Z W : Type 0} (R : X → Y → Z → Type 0) (Q : Z → W → Type 0) (P : X → Y → W → Type 0) → ((x : X) (y : Y) (z : Z) (w : W) → R x y z → Q z w → P x y w) → (xs : List X) (ys : List Y) (zs : List Z) (ws : List W) → AllThree R xs ys zs → AllZip Q zs ws → AllThree P xs ys ws
three_then R Q P h [] [] [] [] all more = tt
three_then R Q P h (x ∷ xs) (y ∷ ys) (z ∷ zs) (w ∷ ws) all more = (h x y z w all.0 more.0, three_then R Q P h xs ys zs ws all.1 more.1)
three_then R Q P h [] [] [] (w ∷ ws) all more = absurd more
three_then R Q P h (x ∷ xs) (y ∷ ys) (z ∷ zs) [] all more = absurd more
three_then R Q P h [] [] (z ∷ zs) ws all more = absurd all
three_then R Q P h [] (y ∷ ys) zs ws all more = absurd all
three_then R Q P h (x ∷ xs) [] zs ws all more = absurd all
three_then R Q P h (x ∷ xs) (y ∷ ys) [] ws all more = absurd all

pub three_weaker : {X Y Z : Type 0} (R Q : X → Y → Z → Type 0) → ((x : X) (y : Y) (z : Z) → R x y z → Q x y z) → (xs : List X) (ys : List Y) (zs : List Z) → AllThree R xs ys zs → AllThree Q xs ys zs
three_weaker R Q h [] [] [] all = tt
three_weaker R Q h (x ∷ xs) (y ∷ ys) (z ∷ zs) all = (h x y z all.0, three_weaker R Q h xs ys zs all.1)
three_weaker R Q h [] [] (z ∷ zs) all = absurd all
three_weaker R Q h [] (y ∷ ys) zs all = absurd all
three_weaker R Q h (x ∷ xs) [] zs all = absurd all
three_weaker R Q h (x ∷ xs) (y ∷ ys) [] all = absurd all

pub three_same : {X Y : Type 0} (R : X → Y → Y → Type 0) → ((x : X) (y : Y) → R x y y) → (xs : List X) (ys : List Y) → length xs ≡ length ys → AllThree R xs ys ys
three_same R h [] [] same = tt
three_same R h (x ∷ xs) (y ∷ ys) same = (h x y, three_same R h xs ys (omega (arith, same)))
three_same R h [] (y ∷ ys) same = (let bad : ⊥ = omega (arith, same) in absurd bad)
three_same R h (x ∷ xs) [] same = (let bad : ⊥ = omega (arith, same) in absurd bad)

-- the last two of them
pub three_zip : {X Y Z : Type 0} (R : X → Y → Z → Type 0) (Q : Y → Z → Type 0) → ((x : X) (y : Y) (z : Z) → R x y z → Q y z) → (xs : List X) (ys : List Y) (zs : List Z) → AllThree R xs ys zs → AllZip Q ys zs
three_zip R Q h [] [] [] all = tt
three_zip R Q h (x ∷ xs) (y ∷ ys) (z ∷ zs) all = (h x y z all.0, three_zip R Q h xs ys zs all.1)
three_zip R Q h [] [] (z ∷ zs) all = absurd all
three_zip R Q h [] (y ∷ ys) zs all = absurd all
three_zip R Q h (x ∷ xs) [] zs all = absurd all
three_zip R Q h (x ∷ xs) (y ∷ ys) [] all = absurd all

-- with what holds of the first two of them
pub three_with : {X Y Z : Type 0} (P : Y → X → Type 0) (R : X → Y → Z → Type 0) (Q : Y → Z → Type 0) → ((x : X) (y : Y) (z : Z) → P y x → R x y z → Q y z) → (xs : List X) (ys : List Y) (zs : List Z) → AllZip P ys xs → AllThree R xs ys zs → AllZip Q ys zs
three_with P R Q h [] [] [] ps all = tt
three_with P R Q h (x ∷ xs) (y ∷ ys) (z ∷ zs) ps all = (h x y z ps.0 all.0, three_with P R Q h xs ys zs ps.1 all.1)
three_with P R Q h [] [] (z ∷ zs) ps all = absurd all
three_with P R Q h [] (y ∷ ys) zs ps all = absurd all
three_with P R Q h (x ∷ xs) [] zs ps all = absurd all
three_with P R Q h (x ∷ xs) (y ∷ ys) [] ps all = absurd all

-- what holds of the first ones and of the third
pub three_right : {X Y Z : Type 0} (P : X → Type 0) (R : X → Y → Z → Type 0) (Q : Z → Type 0) → ((x : X) (y : Y) (z : Z) → P x → R x y z → Q z) → (xs : List X) (ys : List Y) (zs : List Z) → AllByRecursion P xs → AllThree R xs ys zs → AllByRecursion Q zs
three_right P R Q h [] [] [] ps all = tt
three_right P R Q h (x ∷ xs) (y ∷ ys) (z ∷ zs) ps all = (h x y z ps.0 all.0, three_right P R Q h xs ys zs ps.1 all.1)
three_right P R Q h [] [] (z ∷ zs) ps all = absurd all
three_right P R Q h [] (y ∷ ys) zs ps all = absurd all
three_right P R Q h (x ∷ xs) [] zs ps all = absurd all
three_right P R Q h (x ∷ xs) (y ∷ ys) [] ps all = absurd all

-- ---- one place

pub any_weaker : {X Y : Type 0} (R Q : X → Y → Type 0) → ((x : X) (y : Y) → R x y → Q x y) → (xs : List X) (ys : List Y) → AnyZip R xs ys → AnyZip Q xs ys
any_weaker R Q h (x ∷ xs) (y ∷ ys) (inl one) = inl (h x y one)
any_weaker R Q h (x ∷ xs) (y ∷ ys) (inr more) = inr (any_weaker R Q h xs ys more)
any_weaker R Q h [] [] none = absurd none
any_weaker R Q h [] (y ∷ ys) none = absurd none
any_weaker R Q h (x ∷ xs) [] none = absurd none

-- after or before what holds of all
pub any_after : {X Y Z : Type 0} (R : X → Y → Type 0) (Q : Y → Z → Type 0) (P : X → Z → Type 0) → ((x : X) (y : Y) (z : Z) → R x y → Q y z → P x z) → (xs : List X) (ys : List Y) (zs : List Z) → AllZip R xs ys → AnyZip Q ys zs → AnyZip P xs zs
any_after R Q P h (x ∷ xs) (y ∷ ys) (z ∷ zs) all (inl one) = inl (h x y z all.0 one)
any_after R Q P h (x ∷ xs) (y ∷ ys) (z ∷ zs) all (inr more) = inr (any_after R Q P h xs ys zs all.1 more)
any_after R Q P h [] [] [] all none = absurd none
any_after R Q P h [] [] (z ∷ zs) all none = absurd none
any_after R Q P h (x ∷ xs) (y ∷ ys) [] all none = absurd none
any_after R Q P h [] (y ∷ ys) zs all none = absurd all
any_after R Q P h (x ∷ xs) [] zs all none = absurd all

pub any_then : {X Y Z : Type 0} (Q : X → Y → Type 0) (R : Y → Z → Type 0) (P : X → Z → Type 0) → ((x : X) (y : Y) (z : Z) → Q x y → R y z → P x z) → (xs : List X) (ys : List Y) (zs : List Z) → AnyZip Q xs ys → AllZip R ys zs → AnyZip P xs zs
any_then Q R P h (x ∷ xs) (y ∷ ys) (z ∷ zs) (inl one) all = inl (h x y z one all.0)
any_then Q R P h (x ∷ xs) (y ∷ ys) (z ∷ zs) (inr more) all = inr (any_then Q R P h xs ys zs more all.1)
any_then Q R P h (x ∷ xs) (y ∷ ys) [] any all = absurd all
any_then Q R P h [] [] zs none all = absurd none
any_then Q R P h [] (y ∷ ys) zs none all = absurd none
any_then Q R P h (x ∷ xs) [] zs none all = absurd none

-- the same beside a third list
pub three_any : {X Y Z W : Type 0} (R : X → Y → Z → Type 0) (Q : Z → W → Type 0) (P : Y → W → Type 0) → ((x : X) (y : Y) (z : Z) (w : W) → R x y z → Q z w → P y w) → (xs : List X) (ys : List Y) (zs : List Z) (ws : List W) → AllThree R xs ys zs → AnyZip Q zs ws → AnyZip P ys ws
three_any R Q P h (x ∷ xs) (y ∷ ys) (z ∷ zs) (w ∷ ws) all (inl one) = inl (h x y z w all.0 one)
three_any R Q P h (x ∷ xs) (y ∷ ys) (z ∷ zs) (w ∷ ws) all (inr more) = inr (three_any R Q P h xs ys zs ws all.1 more)
three_any R Q P h [] [] [] ws all none = absurd none
three_any R Q P h (x ∷ xs) (y ∷ ys) (z ∷ zs) [] all none = absurd none
three_any R Q P h [] [] (z ∷ zs) ws all none = absurd all
three_any R Q P h [] (y ∷ ys) zs ws all none = absurd all
three_any R Q P h (x ∷ xs) [] zs ws all none = absurd all
three_any R Q P h (x ∷ xs) (y ∷ ys) [] ws all none = absurd all

-- ---- one that stopped

module _ {V : Type 0} (did stopped : V → V → Type 0) where
  -- each of them did this, or stopped, or is as it was
  pub each_after : (P : V → V → Type 0) → ((old new : V) → did old new → P old new) → ((old new : V) → stopped old new → P old new) → ((v : V) → P v v) → (olds news : List V) → OneStopped did stopped olds news → AllZip P olds news
  each_after P one two three (old ∷ olds) (new ∷ news) (inl here) = (two old new here.0, subst (λ l. AllZip P olds l) (sym here.1) (zip_same P three olds))
  each_after P one two three (old ∷ olds) (new ∷ news) (inr later) = (one old new later.0, each_after P one two three olds news later.1)
  each_after P one two three [] [] none = absurd none
  each_after P one two three [] (new ∷ news) none = absurd none
  each_after P one two three (old ∷ olds) [] none = absurd none

  pub one_of : (olds news : List V) → OneStopped did stopped olds news → AnyZip stopped olds news
  one_of (old ∷ olds) (new ∷ news) (inl here) = inl here.0
  one_of (old ∷ olds) (new ∷ news) (inr later) = inr (one_of olds news later.1)
  one_of [] [] none = absurd none
  one_of [] (new ∷ news) none = absurd none
  one_of (old ∷ olds) [] none = absurd none
