-- Several OUTs that were made, closed, named or dropped, as the events of a command.
use Rattle.std.proofs.Common.{List, [], ◌∷◌, ◌++◌, map, arith}
use Rattle.std.specs.List.{AllZip}
use Rattle.pbfcut_cli.specs.declared.endings.Ending.{Ending}
use Rattle.pbfcut_program.specs.Events.{Event, Writing, wrote}
use Rattle.pbfcut_program.specs.Fails.{CauseOfOpening, Each}
use Rattle.pbfcut_program.specs.SeveralFiles.{flatten}
use Rattle.pbfcut_program.proofs.EventLemmas.{each_both, has_after, has_before}

-- what holds of the events of each holds of all
pub all_of : {X : Type 0} (does : X → List Event → Type 0) (p : Event → Type 0) → ((x : X) (es : List Event) → does x es → Each p es) → (xs : List X) (ess : List (List Event)) → AllZip does xs ess → Each p (flatten ess)
all_of does p h [] [] a = tt
all_of does p h (x ∷ xs) (es ∷ ess) a = each_both p es (flatten ess) (h x es a.0) (all_of does p h xs ess a.1)
all_of does p h [] (es ∷ ess) a = absurd a
all_of does p h (x ∷ xs) [] a = absurd a

abbrev pub writes : List Writing → List Event
writes ws = map (λ w. wrote w) ws

pub cause_before : (how : Ending) (xs ys : List Event) → CauseOfOpening how xs → CauseOfOpening how (xs ++ ys)
cause_before how xs ys h3 = grind (arith, has_before)

pub cause_after : (how : Ending) (xs ys : List Event) → CauseOfOpening how ys → CauseOfOpening how (xs ++ ys)
cause_after how xs ys h3 = grind (arith, has_after)
