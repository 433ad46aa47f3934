use Rattle.std.proofs.lemmas.List.{take_rest}
use Rattle.pbf_wire.proofs.SingleLemmas.{first_single}
use Rattle.pbf_wire.proofs.runs.after_singles.Goals as goal

pub singles-preserved : goal.singles-preserved
singles-preserved c = rw take_rest (first_single c.args.bytes.now c.singles.rest.now c.singles.invariant c.in-len1-up.len_at_least c.if-first-ge128.false)
