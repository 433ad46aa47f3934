use Rattle.std.proofs.Common.{◌≡◌, length, map}
use Rattle.pbfcut_program.specs.Devices.{AreFresh}
use Rattle.pbfcut_program.specs.Events.{then_all, openings}
use Rattle.pbfcut_program.proofs.opening.open_passes.Given as goal

abbrev pub invariant-passes : goal.invariant-passes
invariant-passes g l = (g.H.Host.log l.host ≡ then_all (g.H.Host.log l.initial.host) (openings l.fn.input.path.now 1 (map g.H.In.Feed.remaining l.feeds.items))) × AreFresh g.H.In.Feed l.feeds.items × (length l.feeds.items ≡ l.pass)
