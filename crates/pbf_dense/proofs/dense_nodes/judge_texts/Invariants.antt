use Rattle.std.proofs.Common.{◌≡◌, ◌≤◌, false, length}
use Rattle.pbf_wire.specs.Least.{lesser, least}
use Rattle.pbf_wire.specs.Columns.{joined}
use Rattle.pbf_wire.specs.Cursors.{column_left}
use Rattle.pbf_wire.specs.Faults.{index_faults, found_in}
use Rattle.pbf_dense.specs.declared.dense_nodes.TheConstants.{KEYS_VALS}
use Rattle.pbf_dense.specs.Judged.{texts_named}
use Rattle.pbf_dense.proofs.dense_nodes.judge_texts.Given as goal

abbrev pub invariant-numbers : goal.invariant-numbers
invariant-numbers l = lesser l.least (least (index_faults l.limit (texts_named l.in_value (column_left l.keys_vals)))) ≡ least (index_faults l.limit (texts_named false (joined KEYS_VALS (found_in l.message))))

abbrev pub decreases-numbers : goal.decreases-numbers
decreases-numbers l = length (column_left l.keys_vals)

abbrev pub invariant-zeros : goal.invariant-zeros
invariant-zeros l = record {
  faults : lesser l.least (least (index_faults l.limit (texts_named false (column_left l.keys_vals)))) ≡ least (index_faults l.limit (texts_named false (joined KEYS_VALS (found_in l.message))));
  shorter : length (column_left l.keys_vals) ≤ length (column_left l.initial.keys_vals);
}

abbrev pub decreases-zeros : goal.decreases-zeros
decreases-zeros l = length (column_left l.keys_vals)
