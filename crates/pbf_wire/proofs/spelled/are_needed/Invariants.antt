use Rattle.std.proofs.Common.{drop, length}
use Rattle.pbf_wire.specs.Varint.{AreNeeded}
use Rattle.pbf_wire.proofs.spelled.are_needed.Given as goal

abbrev pub invariant-blocks-2 : goal.invariant-blocks-2
invariant-blocks-2 l = AreNeeded 0 l.rest → AreNeeded 0 l.bytes

abbrev pub decreases-blocks-2 : goal.decreases-blocks-2
decreases-blocks-2 l = length l.rest

abbrev pub invariant-bytes : goal.invariant-bytes
invariant-bytes l = AreNeeded l.before (drop l.byte-index l.byte-items) → AreNeeded 0 l.bytes
