-- What is said, put together.
use Rattle.std.proofs.Common.{arith, ◌≡◌, ◌∙◌, inl, inr, ℕ, List, [], ◌∷◌, ◌++◌, Bool, Option, None, Some, refl, ap, sym, subst, append_assoc}
use Rattle.std.proofs.lemmas.List.{append-nil}
use Rattle.pbf_frame.specs.declared.stop.Stop.TheVariants as stop
use Rattle.pbfcut_cli.specs.declared.endings.Ending.{Ending}
use Rattle.pbfcut_cli.specs.declared.endings.Ending.TheVariants as ending
use Rattle.pbfcut_program.specs.declared.host.PrintFault.{PrintFault}
use Rattle.pbfcut_program.specs.declared.host.Screen.{Screen}
use Rattle.pbfcut_program.specs.Events.{Event, printed}
use Rattle.pbfcut_program.specs.Fails.{Calm, Each, FailsOpening, Quiet}
use Rattle.pbfcut_program.specs.Files.{Still}
use Rattle.pbfcut_program.specs.Telling.{BreaksOff, IsSaid, IsUnprinted, SaysLittle, Silent, TellsRefusal, ending_of_line}
use Rattle.pbfcut_program.proofs.EventLemmas.{each_both, each_front, each_weaker}

-- ---- nothing

calm_silent : (e : Event) → Calm e → Silent e
calm_silent e h1 = grind arith

pub silent_of : (xs : List Event) → Each Calm xs → Each Silent xs
silent_of xs q = each_weaker Calm Silent calm_silent xs q

pub silent_little : (digests : Bool) (es : List Event) → Each Silent es → SaysLittle digests es
silent_little digests es s = record { before = es; last = []; happened = sym (append-nil es); silent = s; tells = inl refl }

pub opening_little : (digests : Bool) (how : Ending) (es : List Event) → FailsOpening how es → SaysLittle digests es
opening_little digests how es f = silent_little digests es (silent_of es f.0)

pub little_after : (digests : Bool) (xs ys : List Event) → Each Silent xs → SaysLittle digests ys → SaysLittle digests (xs ++ ys)
little_after digests xs ys s l = record {
  before = xs ++ l.before;
  last = l.last;
  happened = ap (λ es. xs ++ es) l.happened ∙ sym (append_assoc xs l.before l.last);
  silent = each_both Silent xs l.before s l.silent;
  tells = l.tells;
}

-- ---- the line of a refusal

pub refusal_quiet : (digests : Bool) (es : List Event) → TellsRefusal digests es → Each Quiet es
refusal_quiet digests es (inl none) = subst (λ xs. Each Quiet xs) (sym none) tt
refusal_quiet digests es (inr (digest, name, asked, e)) = subst (λ xs. Each Quiet xs) (sym e) (tt, tt)

pub refusal_still : (digests : Bool) (es : List Event) → TellsRefusal digests es → Each Still es
refusal_still digests es (inl none) = subst (λ xs. Each Still xs) (sym none) tt
refusal_still digests es (inr (digest, name, asked, e)) = subst (λ xs. Each Still xs) (sym e) (tt, tt)

-- ---- a line that isn't printed

-- what holds of each line, whether it is printed whole or not, holds of what happened
module _ (p : Event → Type 0) (line : (screen : Screen) (text : List ℕ) (fault : Option PrintFault) → p (printed screen text fault)) where
  unprinted_each : (screen : Screen) (text : List ℕ) (how : Ending) (es : List Event) → IsUnprinted screen text how es → Each p es
  unprinted_each screen text how es (inl (fault, e, is)) = subst (λ xs. Each p xs) (sym e) (line screen text (Some fault), tt)
  unprinted_each screen text how es (inr (none, is)) = subst (λ xs. Each p xs) (sym none) tt

  pub broken_each : (xs : List Event) (how : Ending) (es : List Event) → Each p xs → BreaksOff (λ all. all ≡ xs) how es → Each p es
  broken_each xs how es s b =
      let first = each_front p b.before (printed b.screen b.text None ∷ b.after) (subst (λ ys. Each p ys) (sym b.ends_well) s) in
      subst (λ ys. Each p ys) (sym b.happened) (each_both p b.before b.last first (unprinted_each b.screen b.text how b.last b.unprinted))

pub broken_still : (xs : List Event) (how : Ending) (es : List Event) → Each Still xs → BreaksOff (λ all. all ≡ xs) how es → Each Still es
broken_still xs how es s b = broken_each Still (λ screen text fault. tt) xs how es s b

pub broken_quiet : (xs : List Event) (how : Ending) (es : List Event) → Each Quiet xs → BreaksOff (λ all. all ≡ xs) how es → Each Quiet es
broken_quiet xs how es s b = broken_each Quiet (λ screen text fault. tt) xs how es s b

-- among more events, which are those of more that ends well
pub breaks_in : (well also : List Event → Type 0) (xs : List Event) (how : Ending) (es : List Event) → ((all : List Event) → well all → (ys : List Event) × also (xs ++ (all ++ ys))) → BreaksOff well how es → BreaksOff also how (xs ++ es)
breaks_in well also xs how es of b =
    let rest : List Event = printed b.screen b.text None ∷ b.after in
    let g = of (b.before ++ rest) b.ends_well in
    record {
      before = xs ++ b.before;
      screen = b.screen;
      text = b.text;
      after = b.after ++ g.0;
      last = b.last;
      ends_well = subst also (ap (λ ys. xs ++ ys) (append_assoc b.before rest g.0) ∙ sym (append_assoc xs b.before (rest ++ g.0))) g.1;
      happened = ap (λ ys. xs ++ ys) b.happened ∙ sym (append_assoc xs b.before b.last);
      unprinted = b.unprinted;
    }

pub said_in : (digests : Bool) (well also : List Event → Type 0) (xs : List Event) (how : Ending) (es : List Event) → Each Silent xs → ((all : List Event) → well all → (ys : List Event) × also (xs ++ (all ++ ys))) → IsSaid digests well how es → IsSaid digests also how (xs ++ es)
said_in digests well also xs how es s of (inl little) = inl (little_after digests xs es s little)
said_in digests well also xs how es s of (inr b) = inr (breaks_in well also xs how es of b)

-- these lines and no others
pub lines_in : (also : List Event → Type 0) (xs lines : List Event) (how : Ending) (es : List Event) → also (xs ++ lines) → BreaksOff (λ all. all ≡ lines) how es → BreaksOff also how (xs ++ es)
lines_in also xs lines how es well b = breaks_in (λ all. all ≡ lines) also xs how es (λ all same. ([], subst also (ap (λ ys. xs ++ ys) (sym (append-nil all ∙ same))) well)) b

-- and more that didn't come
pub lines_before : (lines more : List Event) (how : Ending) (es : List Event) → BreaksOff (λ all. all ≡ lines) how es → BreaksOff (λ all. all ≡ lines ++ more) how es
lines_before lines more how es b = breaks_in (λ all. all ≡ lines) (λ all. all ≡ lines ++ more) [] how es (λ all same. (more, ap (λ ys. ys ++ more) same)) b

-- ---- one line

pub broken_line : (screen : Screen) (text : List ℕ) (fault : PrintFault) → BreaksOff (λ all. all ≡ printed screen text None ∷ []) (ending_of_line fault) (printed screen text (Some fault) ∷ [])
broken_line screen text fault = record { before = []; screen = screen; text = text; after = []; last = printed screen text (Some fault) ∷ []; ends_well = refl; happened = refl; unprinted = inl (fault, refl, refl) }

pub line_without_memory : (screen : Screen) (text : List ℕ) → BreaksOff (λ all. all ≡ printed screen text None ∷ []) (ending.Stopped stop.Memory) []
line_without_memory screen text = record { before = []; screen = screen; text = text; after = []; last = []; ends_well = refl; happened = refl; unprinted = inr (refl, refl) }
