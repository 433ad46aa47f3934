-- Events before and after others.
use Rattle.std.proofs.Common.{arith, ◌≡◌, ◌<◌, ℕ, inl, inr, List, [], ◌∷◌, ◌++◌, map, refl, ap, ◌∙◌}
use Rattle.std.proofs.lemmas.List.{append-nil}
use Rattle.pbf_frame.specs.Devices.{HasRisen}
use Rattle.pbfcut_program.specs.Events.{Event, Reading, read}
use Rattle.pbfcut_program.specs.Fails.{Calm, Has, Each, Quiet, WroteNothing, readings}

-- a count that has risen isn't 0
pub has_risen : (old new : ℕ) → HasRisen old new → 0 < new
has_risen old new risen = omega (arith, risen)

pub has_after : (p : Event → Type 0) (xs ys : List Event) → Has p ys → Has p (xs ++ ys)
has_after p [] ys h = h
has_after p (x ∷ xs) ys h = inr (has_after p xs ys h)

pub has_before : (p : Event → Type 0) (xs ys : List Event) → Has p xs → Has p (xs ++ ys)
has_before p [] ys h = absurd h
has_before p (x ∷ xs) ys (inl h) = inl h
has_before p (x ∷ xs) ys (inr h) = inr (has_before p xs ys h)

pub has_weaker : (p q : Event → Type 0) → ((e : Event) → p e → q e) → (xs : List Event) → Has p xs → Has q xs
has_weaker p q of [] h = absurd h
has_weaker p q of (x ∷ xs) (inl h) = inl (of x h)
has_weaker p q of (x ∷ xs) (inr h) = inr (has_weaker p q of xs h)

pub each_both : (p : Event → Type 0) (xs ys : List Event) → Each p xs → Each p ys → Each p (xs ++ ys)
each_both p [] ys h k = k
each_both p (x ∷ xs) ys h k = (h.0, each_both p xs ys h.1 k)

pub each_front : (p : Event → Type 0) (xs ys : List Event) → Each p (xs ++ ys) → Each p xs
each_front p [] ys h = tt
each_front p (x ∷ xs) ys h = (h.0, each_front p xs ys h.1)

pub each_weaker : (p q : Event → Type 0) → ((e : Event) → p e → q e) → (xs : List Event) → Each p xs → Each q xs
each_weaker p q of [] h = tt
each_weaker p q of (x ∷ xs) h = (of x h.0, each_weaker p q of xs h.1)

pub each_quiet : (p : Event → Type 0) → ((e : Event) → Quiet e → p e) → (xs : List Event) → Each Quiet xs → Each p xs
each_quiet p of xs q = each_weaker Quiet p of xs q

calm_quiet : (e : Event) → Calm e → Quiet e
calm_quiet e h1 = grind arith

pub quiet_of : (xs : List Event) → Each Calm xs → Each Quiet xs
quiet_of xs q = each_weaker Calm Quiet calm_quiet xs q

quiet_nothing : (e : Event) → Quiet e → WroteNothing e
quiet_nothing e h1 = grind arith

pub nothing_in : (xs : List Event) → Each Quiet xs → Each WroteNothing xs
nothing_in xs q = each_quiet WroteNothing quiet_nothing xs q

-- ---- readings

reading_first : (e : Event) (xs ys : List Event) → readings (xs ++ ys) ≡ readings xs ++ readings ys → readings (e ∷ xs ++ ys) ≡ readings (e ∷ xs) ++ readings ys
reading_first e xs ys h3 = grind arith

pub readings_both : (xs ys : List Event) → readings (xs ++ ys) ≡ readings xs ++ readings ys
readings_both [] ys = refl
readings_both (x ∷ xs) ys = reading_first x xs ys (readings_both xs ys)

quiet_one : (e : Event) (ys : List Event) → Quiet e → readings (e ∷ ys) ≡ readings ys
quiet_one e ys h2 = grind arith

pub readings_after : (xs ys : List Event) → Each Quiet xs → readings (xs ++ ys) ≡ readings ys
readings_after [] ys q = refl
readings_after (x ∷ xs) ys q = quiet_one x (xs ++ ys) q.0 ∙ readings_after xs ys q.1

pub readings_of_quiet : (xs : List Event) → Each Quiet xs → readings xs ≡ []
readings_of_quiet [] q = refl
readings_of_quiet (x ∷ xs) q = quiet_one x xs q.0 ∙ readings_of_quiet xs q.1

pub readings_before : (xs ys : List Event) → readings ys ≡ [] → readings (xs ++ ys) ≡ readings xs
readings_before xs ys none = readings_both xs ys ∙ ap (λ rs. readings xs ++ rs) none ∙ append-nil (readings xs)

pub readings_of : (rs : List Reading) → readings (map (λ r. read r) rs) ≡ rs
readings_of [] = refl
readings_of (r ∷ rs) = ap (λ more. r ∷ more) (readings_of rs)

pub nothing_read : (rs : List Reading) → Each WroteNothing (map (λ r. read r) rs)
nothing_read [] = tt
nothing_read (r ∷ rs) = (tt, nothing_read rs)
