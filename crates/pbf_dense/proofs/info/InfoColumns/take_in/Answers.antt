use Rattle.std.proofs.Common.{pos}
use Rattle.pbf_wire.specs.Cursors.{sums_left}
use Rattle.pbf_wire.specs.declared.limits.TheConstants.{SUM_LIMIT}
use Rattle.pbf_dense.proofs.InfoLemmas.{still_within}
use Rattle.pbf_dense.proofs.info.InfoColumns.take_in.Goals as goal

pub invariant_of-self : goal.invariant_of-self
invariant_of-self c = record {
  timestamps_stored = rw c.next_sum-meta.ensures.rest (still_within (pos SUM_LIMIT) 1 (sums_left c.args.self.now.timestamps) c.args.self.now.timestamps_stored);
  changesets_stored = rw c.next_sum-meta-2.ensures.rest (still_within (pos SUM_LIMIT) 1 (sums_left c.args.self.now.changesets) c.args.self.now.changesets_stored);
  narrow = c.next_uid-meta.ensures.narrow;
}
