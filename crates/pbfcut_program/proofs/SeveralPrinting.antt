-- The lines of several OUTs, one after the other.
use Rattle.std.proofs.Common.{◌≡◌, ◌∙◌, ◌<◌, ◌+◌, ℕ, List, [], ◌∷◌, ◌++◌, length, map, take, drop, Bor, Option, Result, sym, ap, subst, append_assoc, get_or}
use Rattle.std.proofs.lemmas.Grind.{flat_map-append}
use Rattle.std.proofs.lemmas.List.{at_drop_more, flat_map_more, map_push, take-append-drop}
use Rattle.std.specs.String.{string_bytes}
use Rattle.pbfcut_cli.specs.declared.endings.Ending.{Ending}
use Rattle.pbfcut_program.specs.declared.configured.OutputCut.{OutputCut}
use Rattle.pbfcut_program.specs.declared.host.Screen.TheVariants.{Output}
use Rattle.pbfcut_program.specs.declared.several_writing.DoneOut.{DoneOut}
use Rattle.pbfcut_program.specs.Events.{Event, then_all}
use Rattle.pbfcut_program.specs.Lines.{out_lines, prints}
use Rattle.pbfcut_program.specs.SeveralEnds.{outs_lines}
use Rattle.pbfcut_program.specs.Telling.{Tells}
use Rattle.pbfcut_program.proofs.FailLemmas.{TellsSome, printing_first, printing_more, tells_more}
use Rattle.pbfcut_program.proofs.Logging.{and_then}
use Rattle.pbfcut_program.proofs.Printed.{prints_both}

-- the item that comes after those that a loop has seen
pub item_next : {A X : Type 0} (v : A → X) (seen : List A) (x : X) (all : List X) → map v seen ≡ take (length seen) all → length seen < length all → x ≡ get_or all (length seen) x → all ≡ map v seen ++ x ∷ drop (length seen + 1) all
item_next v seen x all front below is =
    sym (take-append-drop (length seen) all)
    ∙ at_drop_more (λ xs. take (length seen) all ++ xs) all (length seen) x below
    ∙ ap (λ y. take (length seen) all ++ y ∷ drop (length seen + 1) all) (sym is)
    ∙ ap (λ xs. xs ++ x ∷ drop (length seen + 1) all) (sym front)

-- an OUT and what was done of it, as a loop sees them
abbrev pub done_seen : Bor OutputCut × Bor DoneOut → OutputCut × DoneOut
done_seen p = (p.0.now, p.1.now)

abbrev pub lines_of : OutputCut × DoneOut → List (List ℕ)
lines_of one = out_lines one.1.counts one.1.output one.1.meaning (string_bytes one.0.output)

-- those of one more
pub outs_printed : (seen : List (Bor OutputCut × Bor DoneOut)) (one : Bor OutputCut × Bor DoneOut) (l m n : Option (List Event)) → m ≡ then_all l (prints Output (outs_lines (map done_seen seen))) → n ≡ then_all m (prints Output (lines_of (done_seen one))) → n ≡ then_all l (prints Output (outs_lines (map done_seen (seen ++ one ∷ []))))
outs_printed seen one l m n before last =
    let lines = outs_lines (map done_seen seen) in
    let more = lines_of (done_seen one) in
    and_then l m n (prints Output lines) (prints Output more) before last
    ∙ ap (λ es. then_all l es) (sym (prints_both Output lines more) ∙ ap (λ ls. prints Output ls) (flat_map_more lines_of [] (map done_seen seen) (done_seen one) ∙ ap (λ ones. outs_lines ones) (sym (map_push done_seen seen one))))

-- one of them can't be printed
pub outs_broken : (how : Ending) (done : List (OutputCut × DoneOut)) (one : OutputCut × DoneOut) (rest all : List (OutputCut × DoneOut)) (l m n : Option (List Event)) → all ≡ done ++ one ∷ rest → m ≡ then_all l (prints Output (outs_lines done)) → TellsSome m n (prints Output (lines_of one)) how → TellsSome l n (prints Output (outs_lines all)) how
outs_broken how done one rest all l m n are before broken =
    let first = prints Output (outs_lines done) in
    let next = prints Output (lines_of one) in
    let last = prints Output (outs_lines rest) in
    let lines = append_assoc first next last
    ∙ ap (λ es. first ++ es) (sym (prints_both Output (lines_of one) (outs_lines rest)))
    ∙ sym (prints_both Output (outs_lines done) (lines_of one ++ outs_lines rest))
    ∙ ap (λ ls. prints Output ls) (sym (flat_map-append lines_of done (one ∷ rest)) ∙ ap (λ ones. outs_lines ones) (sym are)) in
    subst (λ es. TellsSome l n es how) lines (printing_first how l n (first ++ next) last (printing_more how l m n first next before broken))

-- lines after others; and the first of both, of which one can't be printed
pub lines_told : {A : Type 0} (lines more : List (List ℕ)) (l m n : Option (List Event)) (r : Result A Ending) → m ≡ then_all l (prints Output lines) → Tells m n (prints Output more) r → Tells l n (prints Output (lines ++ more)) r
lines_told lines more l m n r before tells = subst (λ es. Tells l n es r) (sym (prints_both Output lines more)) (tells_more l m n (prints Output lines) (prints Output more) r before tells)

pub lines_broken : (how : Ending) (lines more : List (List ℕ)) (l m : Option (List Event)) → TellsSome l m (prints Output lines) how → TellsSome l m (prints Output (lines ++ more)) how
lines_broken how lines more l m broken = subst (λ es. TellsSome l m es how) (sym (prints_both Output lines more)) (printing_first how l m (prints Output lines) (prints Output more) broken)
