use Rattle.pbf_wire.specs.Cursors.{numbers_left}
use Rattle.pbf_dense.specs.InfoTaken.{written_flag, TakesNumbers}
use Rattle.pbf_dense.proofs.take_numbers.take_flags.Given as goal

abbrev pub invariant-flags : goal.invariant-flags
invariant-flags l = TakesNumbers written_flag l.fn.column l.column (numbers_left l.fn.flags) (numbers_left l.flags) l.count l.left

abbrev pub decreases-flags : goal.decreases-flags
decreases-flags l = l.left
