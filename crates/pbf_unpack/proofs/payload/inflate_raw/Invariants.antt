use Rattle.std.proofs.Common.{◌-◌, ◌≤◌, max, vec_len}
use Rattle.pbf_wire.specs.declared.limits.TheConstants.{RAW_LIMIT}
use Rattle.pbf_unpack.proofs.payload.inflate_raw.Given as goal

abbrev pub decreases-tries : goal.decreases-tries
decreases-tries l = RAW_LIMIT - l.room

-- what is held so far
abbrev pub invariant-tries : goal.invariant-tries
invariant-tries l = vec_len l.out ≤ max (RAW_LIMIT - 1) (vec_len l.fn.out)
