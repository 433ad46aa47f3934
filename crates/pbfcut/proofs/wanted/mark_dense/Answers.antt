use Rattle.pbf_dense.specs.Cursors.{dense_left}
use Rattle.pbf_wire.specs.Cursors.{sums_left}
use Rattle.pbfcut.proofs.WantedLemmas.{dense_takers}
use Rattle.pbfcut.proofs.wanted.mark_dense.Goals as goal

pub returns : goal.returns
returns c = dense_takers c.args.strips.now (sums_left c.ids.result) (dense_left c.args.dense.now) c.args.marks.now c.mark_ids.new.marks c.mark_ids.result c.ids.ensures.begin c.mark_ids.ensures
