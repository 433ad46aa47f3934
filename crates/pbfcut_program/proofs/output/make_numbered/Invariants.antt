use Rattle.std.proofs.Common.{◌≡◌, List, true}
use Rattle.pbfcut_program.specs.Events.{Event, then_all}
use Rattle.pbfcut_program.specs.Fails.{Each, FailsToOpen, Has}
use Rattle.pbfcut_program.specs.Files.{Misses}
use Rattle.pbfcut_program.proofs.output.make_numbered.Given as goal

-- the names that were tried were others' files
abbrev pub invariant-numbers : goal.invariant-numbers
invariant-numbers g l = (tries : List Event) × (g.H.Host.log l.host ≡ then_all (g.H.Host.log l.fn.host) tries) × Each Misses tries × (l.tried ≡ true → Has FailsToOpen tries)
