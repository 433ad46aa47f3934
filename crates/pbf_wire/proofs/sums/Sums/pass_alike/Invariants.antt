use Rattle.std.proofs.Common.{◌-◌, ◌≤◌}
use Rattle.pbf_wire.specs.Cursors.{sums_left}
use Rattle.pbf_wire.specs.Spans.{ArePassed}
use Rattle.pbf_wire.proofs.sums.Sums.pass_alike.Given as goal

abbrev pub invariant-alike : goal.invariant-alike
invariant-alike l = record {
  past : ArePassed l.span l.is_there (sums_left l.fn.self) (sums_left l.rest) (l.most - l.left);
  fewer : l.left ≤ l.most;
}

abbrev pub decreases-alike : goal.decreases-alike
decreases-alike l = l.left
