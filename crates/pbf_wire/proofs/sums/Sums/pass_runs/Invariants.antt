use Rattle.std.proofs.Common.{◌-◌, ◌≤◌}
use Rattle.pbf_wire.specs.Cursors.{sums_left}
use Rattle.pbf_wire.specs.Spans.{ArePassed}
use Rattle.pbf_wire.specs.Taking.{PassesSpelled, left_of}
use Rattle.pbf_wire.proofs.sums.Sums.pass_runs.Given as goal

abbrev pub invariant-runs : goal.invariant-runs
invariant-runs l = record {
  past : ArePassed l.span l.is_there (sums_left l.fn.self) (sums_left l.self) (l.most - l.left);
  spelled : PassesSpelled (left_of l.fn.self) (left_of l.self) (l.most - l.left);
  fewer : l.left ≤ l.most;
}

abbrev pub decreases-runs : goal.decreases-runs
decreases-runs l = l.left
