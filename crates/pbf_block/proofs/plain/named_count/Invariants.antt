use Rattle.std.proofs.Common.{length}
use Rattle.pbf_block.proofs.PlainLemmas.{NamedSoFar}
use Rattle.pbf_block.proofs.plain.named_count.Given as goal

abbrev pub invariant-numbers : goal.invariant-numbers
invariant-numbers l = NamedSoFar l.limit l.count l.rest l.packed

abbrev pub decreases-numbers : goal.decreases-numbers
decreases-numbers l = length l.rest
