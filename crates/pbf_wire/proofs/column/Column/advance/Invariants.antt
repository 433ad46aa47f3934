use Rattle.std.proofs.Common.{◌≡◌, length}
use Rattle.pbf_wire.specs.Cursors.{column_left, place_of_number, found_left}
use Rattle.pbf_wire.proofs.column.Column.advance.Given as goal

abbrev pub invariant-loop-value : goal.invariant-loop-value
invariant-loop-value l =
    record {
      left : column_left l.self ≡ column_left l.fn.self;
      place : place_of_number l.self ≡ place_of_number l.fn.self;
    }

abbrev pub decreases-loop-value : goal.decreases-loop-value
decreases-loop-value l = length (found_left l.self.fields)
