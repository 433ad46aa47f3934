-- What happens before several OUTs are made.
use Rattle.std.proofs.Common.{◌≡◌, ℕ, List, [], ◌∷◌, ◌++◌, Option, Some}
use Rattle.pbf_frame.specs.declared.stop.Stop.TheVariants as stop
use Rattle.pbfcut_cli.specs.declared.endings.Ending.{Ending}
use Rattle.pbfcut_cli.specs.declared.endings.Ending.TheVariants as ending
use Rattle.pbfcut_cli.specs.declared.words.ConfigFiles.{ConfigFiles}
use Rattle.pbfcut_program.specs.Events.{Event, openings, seeded, then_all, then_one}
use Rattle.pbfcut_program.specs.Fails.{Calm, Each, FailsOpening}
use Rattle.pbfcut_program.specs.SeveralFiles.{looks_each}
use Rattle.pbfcut_program.specs.SeveralWrites.{begun_each}
use Rattle.pbfcut_program.proofs.FailLemmas.{opening_after}
use Rattle.pbfcut_program.proofs.Logging.{and_then, then_none}

-- none of the OUTs was there, IN was opened for each pass, and a key was drawn
pub each_begun : (files : ConfigFiles) (outputs : List (List ℕ)) (has : List (Option (List ℕ))) (key : ℕ) (l m n o : Option (List Event)) → m ≡ then_all l (looks_each files.overwrite outputs) → n ≡ then_all m (openings files.input.now 1 has) → o ≡ then_one n (seeded (Some key))
    → o ≡ then_all l (begun_each files outputs has key)
each_begun files outputs has key l m n o looked opened drawn =
    let opens = openings files.input.now 1 has in
    let draws : List Event = seeded (Some key) ∷ [] in
    and_then l m o (looks_each files.overwrite outputs) (opens ++ draws) looked (and_then m n o opens draws opened drawn)

-- it can't be done, for this
abbrev pub CannotBegin : (before after : Option (List Event)) → Ending → Type 0
CannotBegin before after how = (events : List Event) × (after ≡ then_all before events) × FailsOpening how events

-- after what was done
pub begun_until : (how : Ending) (xs : List Event) (l m n : Option (List Event)) → Each Calm xs → m ≡ then_all l xs → CannotBegin m n how → CannotBegin l n how
begun_until how xs l m n calm before fails = (xs ++ fails.0, and_then l m n xs fails.0 before fails.1, opening_after how xs fails.0 calm fails.2)

pub begun_without_memory : (l : Option (List Event)) → CannotBegin l l (ending.Stopped stop.Memory)
begun_without_memory l = ([], then_none l, (tt, tt))
