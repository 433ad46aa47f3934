use Rattle.std.proofs.Common.{◌≡◌, ◌+◌, nat_lt, count_by, length}
use Rattle.pbf_wire.proofs.count.count_ends.Given as goal

abbrev pub invariant-loop-block : goal.invariant-loop-block
invariant-loop-block l = record {
  so_far : l.count + count_by (λ b. nat_lt b 128) l.rest ≡ count_by (λ b. nat_lt b 128) l.bytes;
}

abbrev pub decreases-loop-block : goal.decreases-loop-block
decreases-loop-block l = length l.rest
