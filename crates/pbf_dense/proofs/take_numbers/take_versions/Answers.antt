use Rattle.pbf_wire.specs.Cursors.{numbers_left}
use Rattle.pbf_dense.specs.InfoTaken.{written_version}
use Rattle.pbf_dense.proofs.InfoLemmas.{all_same, some_taken, both_taken}
use Rattle.pbf_dense.proofs.take_numbers.take_versions.Goals as goal

pub versions-preserved : goal.versions-preserved
versions-preserved c =
    let short = c.in_ok-left.ensures in
    let some = some_taken written_version c.versions.column c.take_short.new.self (numbers_left c.versions.versions) (numbers_left c.take_short.new.numbers) c.in_ok-left.field-0 c.versions.left short.few (all_same _ short.short) short.taken short.rest in
    let next = both_taken written_version c.args.column.now _ _ _ _ _ _ _ _ c.versions.invariant some in
    both_taken written_version c.args.column.now _ c.take_version.new.column _ _ (numbers_left c.take_version.new.versions) _ _ c.in_ok-left-2.left next c.in_ok-left-2.ensures.taken
