use Rattle.std.proofs.Common.{◌≡◌, ◌≤◌, ◌^◌, length, pos, true}
use Rattle.pbf_wire.specs.Least.{least}
use Rattle.pbf_wire.specs.Columns.{joined}
use Rattle.pbf_wire.specs.Cursors.{fields_left, column_left}
use Rattle.pbf_wire.specs.Occurrence.{found}
use Rattle.pbf_wire.specs.Faults.{is_allowed, faults_of_sums}
use Rattle.pbf_wire.proofs.RisingLemmas.{Rising, running}
use Rattle.pbf_wire.proofs.values.judge_each_value.Given as goal

abbrev pub invariant-loop-entry : goal.invariant-loop-entry
invariant-loop-entry l = record {
  faults : least (running (is_allowed l.signed l.limit) l.reason l.narrow l.sum.total (column_left l.column)) ≡ least (faults_of_sums (is_allowed l.signed l.limit) l.reason l.narrow (joined l.number (found (fields_left l.fields))));
  rising : Rising (column_left l.column);
  limit : l.sum.limit ≡ pos (2 ^ 62);
}

abbrev pub decreases-loop-entry : goal.decreases-loop-entry
decreases-loop-entry l = length (column_left l.column)

abbrev pub invariant-zeros : goal.invariant-zeros
invariant-zeros l = record {
  faults : least (running (is_allowed l.signed l.limit) l.reason l.narrow l.sum.total (column_left l.column)) ≡ least (faults_of_sums (is_allowed l.signed l.limit) l.reason l.narrow (joined l.number (found (fields_left l.fields))));
  rising : Rising (column_left l.column);
  limit : l.sum.limit ≡ pos (2 ^ 62);
  shorter : length (column_left l.column) ≤ length (column_left l.initial.column);
  good : is_allowed l.signed l.limit l.sum.total ≡ true;
}

abbrev pub decreases-zeros : goal.decreases-zeros
decreases-zeros l = length (column_left l.column)
