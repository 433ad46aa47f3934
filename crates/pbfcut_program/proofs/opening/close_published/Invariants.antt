use Rattle.std.proofs.Common.{map}
use Rattle.pbf_published.specs.PublishedTasks.{below_of}
use Rattle.pbfcut_program.specs.Devices.{CloseAll}
use Rattle.pbfcut_program.proofs.opening.close_published.Given as goal

abbrev pub invariant-feeds : goal.invariant-feeds
invariant-feeds g l = CloseAll g.H.In.Feed (map below_of l.yielded) (g.H.Host.log l.initial.host) (g.H.Host.log l.host)
