-- The files of several OUTs, one after the other.
use Rattle.std.proofs.Common.{◌≡◌, ◌∙◌, inl, inr, ℕ, List, [], ◌∷◌, ◌++◌, length, map, Bool, true, false, Option, Some, None, Result, Ok, Err, Bor, refl, sym, ap, subst, append_assoc, arith}
use Rattle.std.proofs.lemmas.List.{append-nil, flat_map_more, length-map, map-append, map_push}
use Rattle.std.specs.List.{AllZip, zip}
use Rattle.std.specs.Option.{is_some, option_map}
use Rattle.std.specs.String.{string_bytes}
use Rattle.pbf_frame.specs.declared.device.Drain as drain
use Rattle.pbfcut.specs.declared.carrying.AreaOutput.{AreaOutput}
use Rattle.pbfcut.proofs.SeveralLemmas.{zip_more}
use Rattle.pbf_frame.specs.declared.stop.Stop.TheVariants as stop
use Rattle.pbfcut_cli.specs.declared.endings.Ending.{Ending}
use Rattle.pbfcut_cli.specs.declared.endings.Ending.TheVariants as ending
use Rattle.pbfcut_cli.specs.declared.programs.Program.{Program}
use Rattle.pbfcut_program.specs.declared.configured.OutputCut.{OutputCut}
use Rattle.pbfcut_program.specs.declared.several.OutputArea.{OutputArea}
use Rattle.pbfcut_program.specs.declared.several_files.MadeFile.{MadeFile}
use Rattle.pbfcut_program.specs.declared.several_files.MadeOuts.{MadeOuts}
use Rattle.pbfcut_program.specs.declared.several_files.NotKept.{NotKept}
use Rattle.pbfcut_program.specs.declared.several_files.OutPart.{OutPart}
use Rattle.pbfcut_program.specs.Devices.{IsFreshOut}
use Rattle.pbfcut_program.specs.Events.{Event, Writing, looked, wrote, then_all, then_one}
use Rattle.pbfcut_program.specs.Fails.{Calm, Each, FailsAsThere, FailsOpening}
use Rattle.pbfcut_program.specs.Files.{IsMade}
use Rattle.pbfcut_program.specs.SeveralFiles.{ClosesEmpty, DoesEach, DropsEach, DropsPart, FindsOne, FinishesEach, FinishesNext, FinishesPart, FinishesUnkept, FinishesWhole, HasFile, IsBegun, IsPartOf, KeepsEach, MakesEach, MakesPart, NamesEach, OneByOne, UnmakesEach, flatten, looks_each}
use Rattle.pbfcut_program.proofs.EventLemmas.{each_both, has_after}
use Rattle.pbfcut_program.proofs.Logging.{and_then, then_none}

-- ---- a list that is done up to some place

-- this holds of all but those that are left
pub record UpTo {X : Type 0} (holds : List X → Type 0) (all left : List X) : Type 0 where
  pub done : List X
  pub parts : done ++ left ≡ all
  pub is : holds done

-- one more is done
pub step_parts : {X : Type 0} (done all left : List X) (x : X) (more : List X) → left ≡ x ∷ more → done ++ left ≡ all → (done ++ x ∷ []) ++ more ≡ all
step_parts done all left x more is parts = append_assoc done (x ∷ []) more ∙ ap (λ l. done ++ l) (sym is) ∙ parts

pub next_parts : {X : Type 0} (done all left : List X) (x : X) (more : List X) → left ≡ x ∷ more → done ++ left ≡ all → all ≡ done ++ x ∷ more
next_parts done all left x more is parts = sym parts ∙ ap (λ l. done ++ l) is

-- none is left
pub all_parts : {X : Type 0} (done all left : List X) → length left ≡ 0 → done ++ left ≡ all → done ≡ all
all_parts done all [] none parts = sym (append-nil done) ∙ parts
all_parts done all (x ∷ left) none parts = absurd (omega (arith, none))

-- ---- one after the other

pub does_none : {X : Type 0} (does : X → List Event → Type 0) (l : Option (List Event)) → DoesEach does [] l l
does_none does l = ([], then_none l, tt)

pub does_more : {X : Type 0} (does : X → List Event → Type 0) (xs : List X) (x : X) (l m n : Option (List Event)) (es : List Event) → DoesEach does xs l m → n ≡ then_all m es → does x es → DoesEach does (xs ++ x ∷ []) l n
does_more does xs x l m n es d log one = (
  d.0 ++ es ∷ [],
  and_then l m n (flatten d.0) es d.1 log ∙ ap (λ k. then_all l k) (flat_map_more (λ e. e) [] d.0 es),
  zip_more does xs d.0 x es d.2 one,
)

pub one_more : {X : Type 0} (leads : X → Option (List Event) → Option (List Event) → Type 0) (xs : List X) (x : X) (l m n : Option (List Event)) → OneByOne leads xs l m → leads x m n → OneByOne leads (xs ++ x ∷ []) l n
one_more leads [] x l m n same one = (n, subst (λ b. leads x b n) same one, refl)
one_more leads (y ∷ ys) x l m n all one = (all.0, all.1, one_more leads ys x all.0 m n all.2 one)

-- the same of what another list is seen as
pub one_mapped : {X Y : Type 0} (xs : List X) (v : X → Y) (leads : Y → Option (List Event) → Option (List Event) → Type 0) (x : X) (l m n : Option (List Event)) → OneByOne leads (map v xs) l m → leads (v x) m n → OneByOne leads (map v (xs ++ x ∷ [])) l n
one_mapped xs v leads x l m n all one = subst (λ ys. OneByOne leads ys l n) (sym (map_push v xs x)) (one_more leads (map v xs) (v x) l m n all one)

-- an OUT, as a loop sees it
abbrev pub out_of : {A D : Type 0} → Bor OutPart × AreaOutput A D → OutPart × AreaOutput A D
out_of p = (p.0.now, p.1)

-- ---- they are looked for

pub looked_more : (overwrite : Bool) (path : OutputCut → List ℕ) (outs : List OutputCut) (out : OutputCut) (l m n : Option (List Event)) → m ≡ then_all l (looks_each overwrite (map path outs)) → n ≡ then_one m (looked (path out) overwrite false) → n ≡ then_all l (looks_each overwrite (map path (outs ++ out ∷ [])))
looked_more overwrite path outs out l m n before one =
    let look = λ (output : List ℕ). looked output overwrite false in
    and_then l m n (looks_each overwrite (map path outs)) (looked (path out) overwrite false ∷ []) before one
    ∙ ap (λ k. then_all l k) (sym (map_push look (map path outs) (path out)) ∙ ap (λ k. map look k) (sym (map_push path outs out)))

pub calm_looks_each : (overwrite : Bool) (outputs : List (List ℕ)) → Each Calm (looks_each overwrite outputs)
calm_looks_each overwrite [] = tt
calm_looks_each overwrite (o ∷ os) = (tt, calm_looks_each overwrite os)

-- one is there
pub found_one : (overwrite : Bool) (path : OutputCut → List ℕ) (all done : List OutputCut) (out : OutputCut) (later : List OutputCut) (l m n : Option (List Event)) → all ≡ done ++ out ∷ later → m ≡ then_all l (looks_each overwrite (map path done)) → n ≡ then_one m (looked (path out) overwrite true)
    → (events : List Event) × (n ≡ then_all l events) × FailsOpening ending.OutExists events × FindsOne overwrite (map path all) events
found_one overwrite path all done out later l m n are before one =
    let looks = looks_each overwrite (map path done) in
    let there : List Event = looked (path out) overwrite true ∷ [] in (
      looks ++ there,
      and_then l m n looks there before one,
      (each_both Calm looks there (calm_looks_each overwrite (map path done)) (tt, tt), has_after FailsAsThere looks there (inl refl)),
      (map path done, path out, map path later, ap (map path) are ∙ map-append path done (out ∷ later), refl),
    )

-- OUTs that took nothing
pub closes_empty : {D : Type 0} (d : drain.Ghosts D) (outs : List OutputCut) (parts : List OutPart) (outputs : List (AreaOutput OutputArea D)) (l m : Option (List Event)) → AllZip IsPartOf outs parts → AllZip (IsBegun d) outs outputs → OneByOne (FinishesUnkept d) (zip parts outputs) l m → DoesEach ClosesEmpty parts l m
closes_empty d [] [] [] l m paths begun c = ([], c ∙ then_none l, tt)
closes_empty d (o ∷ os) (p ∷ ps) (x ∷ xs) l m paths begun c =
    let rest = closes_empty d os ps xs c.0 m paths.1 begun.1 c.2 in
    let w : Writing = record { name = Some (string_bytes p.name); bytes = []; reports = is_some (d.taken x.drain); failures = d.failures x.drain; kept = false; fault = c.1.0 } in
    let closed = c.1.1.1 [] begun.0.fresh.0 in
    ((wrote w ∷ []) ∷ rest.0, and_then l c.0 m (wrote w ∷ []) (flatten rest.0) closed rest.1, ((w, refl, refl, refl, refl), rest.2))
closes_empty d [] (p ∷ ps) outputs l m paths begun c = absurd paths
closes_empty d (o ∷ os) [] outputs l m paths begun c = absurd paths
closes_empty d [] [] (x ∷ xs) l m paths begun c = absurd begun
closes_empty d (o ∷ os) (p ∷ ps) [] l m paths begun c = absurd begun

-- ---- they are made

-- there was no memory for any
pub none_unmade : (program : Program) (outs : List OutputCut) (l : Option (List Event)) → UnmakesEach program outs (ending.Stopped stop.Memory) l l
none_unmade program outs l = record {
  done = [];
  later = outs;
  are = refl;
  parts = [];
  paths = tt;
  first = l;
  second = l;
  third = l;
  tries = [];
  makes = does_none (MakesPart program) l;
  log = then_none l;
  fails = (tt, tt);
  closes = does_none ClosesEmpty l;
  drops = does_none (DropsPart program) l;
}

pub none_made : {D : Type 0} (d : drain.Ghosts D) (program : Program) (parts : List OutPart) (outputs : List (AreaOutput OutputArea D)) (l : Option (List Event)) → parts ≡ [] → outputs ≡ [] → MakesEach d program [] parts outputs l l
none_made d program parts outputs l p o = subst (λ ps. MakesEach d program [] ps outputs l l) (sym p) (subst (λ os. MakesEach d program [] [] os l l) (sym o) (record { makes = does_none (MakesPart program) l; paths = tt; begun = tt }))

-- one more
pub made_more : {D : Type 0} (d : drain.Ghosts D) (program : Program) (outs : List OutputCut) (out : OutputCut) (old new : MadeOuts D) (file : MadeFile D) (l m n : Option (List Event)) (es : List Event) → MakesEach d program outs old.parts.items old.outputs.items l m
    → n ≡ then_all m es → MakesPart program file.part es → string_bytes file.part.path ≡ string_bytes out.output → IsFreshOut d file.drain → HasFile old out.cut file new → MakesEach d program (outs ++ out ∷ []) new.parts.items new.outputs.items l n
made_more d program outs out old new file l m n es all log made path fresh has =
    subst (λ ps. MakesEach d program (outs ++ out ∷ []) ps new.outputs.items l n) (sym has.parts) (subst (λ os. MakesEach d program (outs ++ out ∷ []) (old.parts.items ++ file.part ∷ []) os l n) (sym has.outputs) (record {
      makes = does_more (MakesPart program) old.parts.items file.part l m n es all.makes log made;
      paths = zip_more IsPartOf outs old.parts.items out file.part all.paths path;
      begun = zip_more (IsBegun d) outs old.outputs.items out has.output all.begun (record { cut = has.cut_is; unhashed = has.none.0; unmeant = has.none.1; fresh = subst (λ x. IsFreshOut d x) (sym has.drain) fresh });
    }))

-- one can't be made
pub made_until : {D : Type 0} (d : drain.Ghosts D) (program : Program) (all done : List OutputCut) (out : OutputCut) (more : List OutputCut) (parts : List OutPart) (outputs : List (AreaOutput OutputArea D)) (how : Ending) (tries : List Event) (l m n o : Option (List Event)) → all ≡ done ++ out ∷ more → MakesEach d program done parts outputs l m
    → n ≡ then_all m tries → FailsOpening how tries → DropsEach d program parts outputs n o → UnmakesEach program all how l o
made_until d program all done out more parts outputs how tries l m n o are made log fails drops = record {
  done = done;
  later = out ∷ more;
  are = are;
  parts = parts;
  paths = made.paths;
  first = m;
  second = n;
  third = drops.0;
  tries = tries;
  makes = made.makes;
  log = log;
  fails = fails;
  closes = closes_empty d done parts outputs n drops.0 made.paths made.begun drops.1;
  drops = drops.2;
}

pub made_some : {S : Type 0} (program : Program) (output : List ℕ) (bytes : S → List ℕ) (name : Option S) (es : List Event) → IsMade program false output (option_map bytes name) es → is_some name ≡ true
made_some program output bytes (Some name) es m = refl
made_some program output bytes None es m = absurd m

-- ---- they are taken back

pub finishes_more : {A D X Y : Type 0} (d : drain.Ghosts D) (outs : List (OutPart × AreaOutput A D)) (out : OutPart × AreaOutput A D) (at : ℕ) (first : Result X NotKept) (next : Result Y NotKept) (l m n : Option (List Event)) → at ≡ length outs → FinishesEach d first outs l m → FinishesNext d first at out next m n → FinishesEach d next (outs ++ out ∷ []) l n
finishes_more d outs out at (Ok a) (Ok b) l m n is all one = one_more (FinishesWhole d) outs out l m n all one
finishes_more d outs out at (Ok a) (Err told) l m n is all one = record {
  whole = outs;
  failed = out;
  later = [];
  are = refl;
  place = one.0 ∙ is;
  first = m;
  second = n;
  wholes = all;
  fails = one.1;
  unkept = refl;
}
finishes_more d outs out at (Err told) (Ok b) l m n is all one = absurd one
finishes_more d outs out at (Err told) (Err same) l m n is all one = record {
  whole = all.whole;
  failed = all.failed;
  later = all.later ++ out ∷ [];
  are = ap (λ os. os ++ out ∷ []) all.are ∙ append_assoc all.whole (all.failed ∷ all.later) (out ∷ []);
  place = ap (λ (t : NotKept). t.at) one.0 ∙ all.place;
  first = all.first;
  second = all.second;
  wholes = all.wholes;
  fails = subst (λ (t : NotKept). FinishesPart d true (Some t.fault) all.failed all.first all.second) (sym one.0) all.fails;
  unkept = one_more (FinishesUnkept d) all.later out all.second m n all.unkept one.1;
}

pub finishes_mapped : {X A D Y Z : Type 0} (d : drain.Ghosts D) (v : X → OutPart × AreaOutput A D) (xs : List X) (x : X) (at : ℕ) (first : Result Y NotKept) (next : Result Z NotKept) (l m n : Option (List Event)) → at ≡ length xs → FinishesEach d first (map v xs) l m → FinishesNext d first at (v x) next m n → FinishesEach d next (map v (xs ++ x ∷ [])) l n
finishes_mapped d v xs x at first next l m n is all one = subst (λ os. FinishesEach d next os l n) (sym (map_push v xs x)) (finishes_more d (map v xs) (v x) at first next l m n (is ∙ sym (length-map xs v)) all one)

-- they get their names then
pub keeps_named : {A D X : Type 0} (d : drain.Ghosts D) (program : Program) (overwrite : Bool) (r : Result X NotKept) (parts : List OutPart) (outputs : List (AreaOutput A D)) (l m n : Option (List Event)) → OneByOne (FinishesWhole d) (zip parts outputs) l m → NamesEach program overwrite r parts m n → KeepsEach d program overwrite r parts outputs l n
keeps_named d program overwrite (Ok a) parts outputs l m n whole names = (m, whole, names)
keeps_named d program overwrite (Err told) parts outputs l m n whole names = (m, inr (whole, names))
