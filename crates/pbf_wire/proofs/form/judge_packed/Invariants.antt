use Rattle.std.proofs.Common.{◌≡◌, length}
use Rattle.pbf_wire.specs.Columns.{entries, entry_fault}
use Rattle.pbf_wire.proofs.form.judge_packed.Given as goal

abbrev pub invariant-loop-rest : goal.invariant-loop-rest
invariant-loop-rest l = entry_fault (entries l.rest) ≡ entry_fault (entries l.packed)

abbrev pub decreases-loop-rest : goal.decreases-loop-rest
decreases-loop-rest l = length l.rest
