use Rattle.pbf_wire.specs.Cursors.{numbers_left}
use Rattle.pbf_dense.specs.InfoTaken.{written_version, TakesNumbers}
use Rattle.pbf_dense.proofs.take_numbers.take_versions.Given as goal

abbrev pub invariant-versions : goal.invariant-versions
invariant-versions l = TakesNumbers written_version l.fn.column l.column (numbers_left l.fn.versions) (numbers_left l.versions) l.count l.left

abbrev pub decreases-versions : goal.decreases-versions
decreases-versions l = l.left
