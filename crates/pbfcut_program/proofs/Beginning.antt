-- What happens before IN is read, and after.
use Rattle.std.proofs.Common.{arith, ◌≡◌, ◌∙◌, ℕ, suc, ◌+◌, List, [], ◌∷◌, ◌++◌, length, map, Bool, true, false, Option, Some, None, inl, refl, ap, subst, sym, append_assoc}
use Rattle.osm_area.specs.Area.{AreaSpec}
use Rattle.pbf_block.specs.declared.counts.Counts.{Counts}
use Rattle.pbfcut_cli.specs.declared.programs.Program.{Program}
use Rattle.pbfcut_cli.specs.declared.words.Files.{Files}
use Rattle.pbfcut_cli.specs.declared.words.Region.{Region}
use Rattle.pbfcut_program.specs.Events.{Event, advised, made, opened, seeded, then_all, openings}
use Rattle.pbfcut_program.specs.Fails.{Calm, Each, Opens, Quiet}
use Rattle.pbfcut_program.specs.Files.{IsMade, Misses, Still}
use Rattle.pbfcut_program.specs.Program.{MeansArea, advice, begun, draws, is_empty, looks}
use Rattle.pbfcut_program.proofs.EventLemmas.{each_both, each_weaker, quiet_of}
use Rattle.pbfcut_program.proofs.FailLemmas.{opens_after, opens_before}
use Rattle.pbfcut_program.proofs.SayingLemmas.{silent_of}
use Rattle.pbfcut_program.specs.Telling.{Silent}

pub calm_looks : (is : Bool) (files : Files) → Each Calm (looks is files)
calm_looks is files = grind arith

missing_calm : (e : Event) → Misses e → Calm e
missing_calm e h1 = grind arith

pub misses_calm : (tries : List Event) → Each Misses tries → Each Calm tries
misses_calm tries m = each_weaker Misses Calm missing_calm tries m

pub quiet_makes : (program : Program) (is : Bool) (output : List ℕ) (name : Option (List ℕ)) (events : List Event) → IsMade program is output name events → Each Quiet events
quiet_makes program true output name events m = subst (λ es. Each Quiet es) (sym m.1) (tt, tt)
quiet_makes program false output None events m = absurd m
quiet_makes program false output (Some name) events m = subst (λ es. Each Quiet es) (sym m.3) (each_both Quiet m.0 (made name ∷ []) (quiet_of m.0 (misses_calm m.0 m.1)) (tt, tt))

pub silent_makes : (program : Program) (is : Bool) (output : List ℕ) (name : Option (List ℕ)) (events : List Event) → IsMade program is output name events → Each Silent events
silent_makes program true output name events m = subst (λ es. Each Silent es) (sym m.1) (tt, tt)
silent_makes program false output None events m = absurd m
silent_makes program false output (Some name) events m = subst (λ es. Each Silent es) (sym m.3) (each_both Silent m.0 (made name ∷ []) (silent_of m.0 (misses_calm m.0 m.1)) (tt, tt))

pub calm_openings : (input : List ℕ) (pass : ℕ) (has : List (Option (List ℕ))) → Each Calm (openings input pass has)
calm_openings input pass [] = tt
calm_openings input pass (h ∷ has) = (tt, calm_openings input (pass + 1) has)

pub calm_draws : (program : Program) (key : ℕ) → Each Calm (draws program key)
calm_draws program key = grind arith

-- what `show` does before its passes, and what comes next
pub shown_events : (os ds rs ws : List Event) (s : Event) → (os ++ (ds ++ s ∷ [])) ++ (rs ++ ws) ≡ ((os ++ ds) ++ s ∷ rs) ++ ws
shown_events [] ds rs ws s = append_assoc ds (s ∷ []) (rs ++ ws) ∙ sym (append_assoc ds (s ∷ rs) ws)
shown_events (o ∷ os) ds rs ws s = ap (λ es. o ∷ es) (shown_events os ds rs ws s)

-- all of it
pub quiet_begun : (is : Bool) (files : Files) (has : List (Option (List ℕ))) (key : ℕ) (makes : List Event) → Each Quiet makes → Each Quiet (begun is files has key makes)
quiet_begun is files has key makes q =
    let opens = openings files.input.now 1 has in
    each_both Quiet (looks is files ++ opens) (seeded (Some key) ∷ makes) (quiet_of _ (each_both Calm (looks is files) opens (calm_looks is files) (calm_openings files.input.now 1 has))) (tt, q)

pub opens_openings : (input : List ℕ) (pass : ℕ) (has : List (Option (List ℕ))) → Opens input pass has (openings input pass has)
opens_openings input pass [] = tt
opens_openings input pass (h ∷ has) = (inl (refl, refl, refl), opens_after input (pass + 1) has (opened input pass h ∷ []) (openings input (pass + 1) has) (opens_openings input (pass + 1) has))

pub silent_begun : (is : Bool) (files : Files) (has : List (Option (List ℕ))) (key : ℕ) (makes : List Event) → Each Silent makes → Each Silent (begun is files has key makes)
silent_begun is files has key makes s =
    let opens = openings files.input.now 1 has in
    each_both Silent (looks is files ++ opens) (seeded (Some key) ∷ makes) (silent_of (looks is files ++ opens) (each_both Calm (looks is files) opens (calm_looks is files) (calm_openings files.input.now 1 has))) (tt, s)

pub opens_begun : (is : Bool) (files : Files) (has : List (Option (List ℕ))) (key : ℕ) (makes : List Event) → Opens files.input.now 1 has (begun is files has key makes)
opens_begun is files has key makes =
    let opens = openings files.input.now 1 has in
    opens_before files.input.now 1 has (looks is files ++ opens) (seeded (Some key) ∷ makes) (opens_after files.input.now 1 has (looks is files) opens (opens_openings files.input.now 1 has))

pub length_has : {A B : Type 0} (f : A → B) (xs : List A) → length (map f xs) ≡ length xs
length_has f [] = refl
length_has f (x ∷ xs) = ap (λ n. suc n) (length_has f xs)

-- what is read of what is cut out
pub calm_region : (cut : Region) (events : List Event) (area : AreaSpec) → MeansArea cut events area → Each Calm events
calm_region cut events area h3 = grind arith

pub advice_some : (counts : Counts) → is_empty counts ≡ true → advice counts ≡ advised ∷ []
advice_some counts e = rw e refl

pub advice_none : (counts : Counts) → is_empty counts ≡ false → advice counts ≡ []
advice_none counts e = rw e refl

pub still_advice : (counts : Counts) → Each Still (advice counts)
still_advice counts = grind arith

-- what is prepared, by a log
abbrev pub Prepares : {H : Type 0} → (log : H → Option (List Event)) → (old new : H) → Program → (is : Bool) → Files → (has : List (Option (List ℕ))) → (key : ℕ) → (name : Option (List ℕ)) → Type 0
Prepares log old new program is files has key name = (makes : List Event) × (log new ≡ then_all (log old) (begun is files has key makes)) × IsMade program is files.output.now name makes
