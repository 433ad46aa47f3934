use Rattle.std.proofs.Common.{◌≡◌, ℕ, ◌-◌, ◌<◌, ◌≤◌, drop, length}
use Rattle.pbf_wire.specs.Short.{EndsWithin}
use Rattle.pbf_wire.proofs.short.is_short.Given as goal

abbrev pub invariant-loop-window : goal.invariant-loop-window
invariant-loop-window l = record {
  within : length l.rest ≤ length l.bytes;
  left : l.rest ≡ drop (length l.bytes - length l.rest) l.bytes;
  done : (i : ℕ) → i < length l.bytes - length l.rest → EndsWithin 5 l.bytes i;
}

abbrev pub decreases-loop-window : goal.decreases-loop-window
decreases-loop-window l = length l.rest
