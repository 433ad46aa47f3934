use Rattle.std.proofs.Common.{◌-◌, ◌≤◌}
use Rattle.pbf_wire.specs.Taking.{PassesSpelled, left_of}
use Rattle.pbf_wire.proofs.sums.Sums.pass_quick.Given as goal

abbrev pub invariant-entries : goal.invariant-entries
invariant-entries l = record {
  passed : PassesSpelled (left_of l.fn.self) (left_of l.rest) (l.count - l.left);
  fewer : l.left ≤ l.count;
}

abbrev pub decreases-entries : goal.decreases-entries
decreases-entries l = l.left
