use Rattle.std.proofs.Common.{◌≡◌, length}
use Rattle.pbf_block.specs.Runs.{entities_left, runs_left}
use Rattle.pbf_block.proofs.entities.EntitiesIterator.next.Given as goal

abbrev pub invariant-runs : goal.invariant-runs
invariant-runs l = entities_left l.self ≡ entities_left l.fn.self

abbrev pub decreases-runs : goal.decreases-runs
decreases-runs l = length (runs_left l.self.runs)
