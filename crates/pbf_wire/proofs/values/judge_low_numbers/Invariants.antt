use Rattle.std.proofs.Common.{◌≡◌, length}
use Rattle.std.specs.List.{flat_map}
use Rattle.pbf_wire.specs.Least.{lesser, least}
use Rattle.pbf_wire.specs.Columns.{joined}
use Rattle.pbf_wire.specs.Cursors.{column_left}
use Rattle.pbf_wire.specs.Faults.{below_fault, found_in}
use Rattle.pbf_wire.proofs.values.judge_low_numbers.Given as goal

abbrev pub invariant-loop-value : goal.invariant-loop-value
invariant-loop-value l = lesser l.least (least (flat_map (below_fault l.reason l.limit) (column_left l.column))) ≡ least (flat_map (below_fault l.reason l.limit) (joined l.number (found_in l.message)))

abbrev pub decreases-loop-value : goal.decreases-loop-value
decreases-loop-value l = length (column_left l.column)
