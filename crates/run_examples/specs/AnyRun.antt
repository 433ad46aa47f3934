-- What any run of the command line of the chapter Extract comes to if it ends with status 0 over
-- that disk. The chapter shows one such run. Here nothing is said of what happens in between, and
-- still OUT has the same bytes afterwards.
use Rattle.std.specs.Prelude.{◌≡◌, ℕ, List, Some}
use Rattle.pbf_examples.specs.Extracts.{two_nodes}
use Rattle.pbfcut_cli.specs.declared.programs.Program.TheVariants.{Pbfcut}
use Rattle.pbfcut_program.specs.Events.{Event}
use Rattle.pbfcut_program.specs.Files.{AllowsAll, after, put}
use Rattle.pbfcut_program.specs.Program.{IsRun}
use Rattle.run_examples.specs.Extract.{disk, output, typed}

pub record EachRun : Type 0 where
  pub output_has :
      (events : List Event) → IsRun Pbfcut typed events 0 → AllowsAll disk events
      → after events disk output ≡ Some two_nodes
  -- if there is an OUT before, whatever it has, no run ends so
  pub none_over :
      (bytes : List ℕ) (events : List Event) → IsRun Pbfcut typed events 0
      → AllowsAll (put output (Some bytes) disk) events → ⊥
