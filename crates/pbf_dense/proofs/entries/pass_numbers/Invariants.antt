use Rattle.std.proofs.Common.{◌≡◌, drop}
use Rattle.pbf_wire.specs.Cursors.{numbers_left}
use Rattle.pbf_dense.proofs.entries.pass_numbers.Given as goal

abbrev pub invariant-loop-passed : goal.invariant-loop-passed
invariant-loop-passed l = numbers_left l.rest ≡ drop l._passed (numbers_left l.fn.numbers)
