-- What is gathered for one of several areas.
use Rattle.std.proofs.Common.{◌≡◌, List, [], ◌∷◌, Bool, true, false, true≢false, refl, sym, ap, ◌∙◌}
use Rattle.std.specs.List.{fold}
use Rattle.osm_entity.specs.Entity.{EntitySpec}
use Rattle.pbfcut.specs.declared.area_phase.AreaPhase.{AreaPhase}
use Rattle.pbfcut.specs.AreaPhases.{gathered_unless}

-- an entity that leaves what is gathered as it is leaves the phase so
pub none_gathered : {S R : Type 0} (with_one : S → EntitySpec → S) (a : AreaPhase S R) (e : EntitySpec) → ((s : S) → with_one s e ≡ s) → record a { gathering = gathered_unless a.is_done with_one a.gathering e } ≡ a
none_gathered with_one a e same = by a.is_done where
  by : (is_done : Bool) → record a { gathering = gathered_unless is_done with_one a.gathering e } ≡ a
  by true = refl
  by false = ap (λ s. record a { gathering = s }) (same a.gathering)

abbrev pub with_more : {S R : Type 0} → (S → EntitySpec → S) → AreaPhase S R → EntitySpec → AreaPhase S R
with_more with_one a e = record a { gathering = gathered_unless a.is_done with_one a.gathering e }

unless_all : {S : Type 0} (is_done : Bool) (with_one : S → EntitySpec → S) (s : S) (es : List EntitySpec) → (is_done ≡ false → fold (gathered_unless is_done with_one) s es ≡ fold with_one s es) × (is_done ≡ true → fold (gathered_unless is_done with_one) s es ≡ s)
unless_all true with_one s [] = (λ _. refl, λ _. refl)
unless_all true with_one s (e ∷ es) = (λ left. absurd (true≢false left), λ done. (unless_all true with_one s es).1 done)
unless_all false with_one s es = (λ _. refl, λ done. absurd (true≢false (sym done)))

-- the rest of it stays
pub beside_all : {S R : Type 0} (with_one : S → EntitySpec → S) (a : AreaPhase S R) (es : List EntitySpec) → fold (with_more with_one) a es ≡ record a { gathering = fold (gathered_unless a.is_done with_one) a.gathering es }
beside_all with_one a [] = refl
beside_all with_one a (e ∷ es) = beside_all with_one (with_more with_one a e) es

-- all entities, if they weren't gathered before; or none
pub gathered_all : {S R : Type 0} (with_one : S → EntitySpec → S) (a : AreaPhase S R) (es : List EntitySpec) → a.is_done ≡ false → fold (with_more with_one) a es ≡ record a { gathering = fold with_one a.gathering es }
gathered_all with_one a es not_done = beside_all with_one a es ∙ ap (λ s. record a { gathering = s }) ((unless_all a.is_done with_one a.gathering es).0 not_done)

pub gathered_none : {S R : Type 0} (with_one : S → EntitySpec → S) (a : AreaPhase S R) (es : List EntitySpec) → a.is_done ≡ true → fold (with_more with_one) a es ≡ a
gathered_none with_one a es is_done = beside_all with_one a es ∙ ap (λ s. record a { gathering = s }) ((unless_all a.is_done with_one a.gathering es).1 is_done)

abbrev pub with_gathering : {S R : Type 0} → AreaPhase S R → S → AreaPhase S R
with_gathering a s = record a { gathering = s }
