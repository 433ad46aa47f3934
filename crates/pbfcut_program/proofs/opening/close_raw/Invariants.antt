use Rattle.pbfcut_program.specs.Devices.{CloseAll}
use Rattle.pbfcut_program.proofs.opening.close_raw.Given as goal

abbrev pub invariant-feeds : goal.invariant-feeds
invariant-feeds g l = CloseAll g.H.In.Feed l.yielded (g.H.Host.log l.initial.host) (g.H.Host.log l.host)
