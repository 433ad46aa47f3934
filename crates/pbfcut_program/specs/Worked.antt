-- What a command that writes did with its devices, in the form of a call.
use Rattle.std.specs.Prelude.{◌≡◌, ℕ, List, None, Option, true}
use Rattle.pbfcut_program.specs.declared.engine.Engine.{Engine}
use Rattle.pbfcut_program.specs.declared.printing.Done.{Done}
use Rattle.pbfcut_program.specs.Events.{Reading, Writing}
use Rattle.pbfcut_program.specs.Manner.{check_in, hashes_meaning, manner_of, of_output, output_form}
use Rattle.pbfcut_program.specs.Lines.{digest_if_asked}
use Rattle.pbfcut_program.specs.Readings.{IsWork}
use Rattle.pbfcut.specs.Tasks.{Task}

-- all that OUT took went out, it is the work, and this is reported of it
pub record Worked (engine : Engine) (key : ℕ) (task : Task) (has : List (Option (List ℕ))) (rs : List Reading) (out : Writing) (done : Done) : Type 0 where
  pub kept : out.kept ≡ true
  pub whole : out.fault ≡ None
  pub hashed : done.output ≡ digest_if_asked engine.digests out.bytes
  pub meaning_hashed : done.meaning ≡ digest_if_asked (hashes_meaning (output_form engine.packs engine.program) engine.digests) (of_output (manner_of engine) out.bytes)
  pub work : IsWork (manner_of engine) (check_in engine key) task has rs out.bytes done.report.counts done.report.input done.report.raw
