-- What a command that writes did, if its lines were printed.
use Rattle.std.proofs.Common.{◌≡◌, ℕ, Bool, List, ◌∷◌, ◌++◌, length, map, Option, ap, subst, sym, append_assoc}
use Rattle.pbfcut_cli.specs.declared.words.Files.{Files}
use Rattle.pbfcut_program.specs.declared.engine.Engine.{Engine}
use Rattle.pbfcut_program.specs.declared.printing.Done.{Done}
use Rattle.pbfcut_program.specs.Events.{Event, Reading, Writing, read, wrote}
use Rattle.pbfcut_program.specs.Files.{IsKept, IsMade}
use Rattle.pbfcut_program.specs.Manner.{check_in, manner_of}
use Rattle.pbfcut_program.specs.Program.{WritesCounts, begun, is_screen, screen_of}
use Rattle.pbfcut_program.specs.Lines.{counts_text, done_lines, prints}
use Rattle.pbfcut_program.specs.Readings.{IsWork}
use Rattle.pbfcut.specs.Tasks.{Task, passes_of}
use Rattle.pbfcut_program.specs.Worked.{Worked}

module _ (engine : Engine) (key : ℕ) (of task : Task) (files : Files) (has : List (Option (List ℕ))) (rs : List Reading) (out : Writing) (done : Done) (makes keeps : List Event) (name : Option (List ℕ)) where
  abbrev is : Bool
  is = is_screen engine.program files.output.now

  abbrev first : List Event
  first = begun is files has key makes

  abbrev lines : List Event
  lines = prints (screen_of is) (counts_text done.report.counts ∷ done_lines done.output done.meaning done.report.input done.report.raw files.input.now files.output.now)

  pub writes_lines : of ≡ task → length has ≡ passes_of task → IsMade engine.program is files.output.now name makes → Worked engine key of has rs out done → out.name ≡ name → IsKept engine.program files.overwrite files.output.now out.name keeps
      → WritesCounts (manner_of engine) task files done.report.counts ((first ++ (map (λ r. read r) rs ++ (wrote out ∷ keeps))) ++ lines)
  writes_lines planned passes made worked named kept = record {
    has = has;
    rs = rs;
    out = out;
    key = key;
    digest = done.report.input;
    raw = done.report.raw;
    known = done.output;
    meaning = done.meaning;
    makes = makes;
    keeps = keeps;
    happened = ap (λ es. es ++ lines) (sym (append_assoc first (map (λ r. read r) rs) (wrote out ∷ keeps)));
    passes = passes;
    made = subst (λ n. IsMade engine.program is files.output.now n makes) (sym named) made;
    named = kept;
    kept = worked.kept;
    whole = worked.whole;
    hashed = worked.hashed;
    meaning_hashed = worked.meaning_hashed;
    work = subst (λ t. IsWork (manner_of engine) (check_in engine key) t has rs out.bytes done.report.counts done.report.input done.report.raw) planned worked.work;
  }
