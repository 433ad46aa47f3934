use Rattle.std.proofs.Common.{rules}
use Rattle.pbf_unpack.proofs.FrameHeld.{header_same}
use Rattle.pbf_unpack.proofs.frame.RawFrame.take.Goals as goal
use Rattle.pbf_unpack.proofs.frame.RawFrame.take.Goals.{then-eq+in_ok-extend_from_slice, else-eq+in_ok-extend_from_slice-2}

pub invariant_of-self-then-eq-2 : goal.invariant_of-self-then-eq-2
invariant_of-self-then-eq-2 c = elim c.if-eq.branch [
  | then-eq+in_ok-extend_from_slice w ↦ search (rules, header_same)
  | else-eq+in_ok-extend_from_slice-2 w ↦ search (rules, header_same)
]

pub invariant_of-self-then-eq-3 : goal.invariant_of-self-then-eq-3
invariant_of-self-then-eq-3 c = elim c.if-eq.branch [
  | then-eq+in_ok-extend_from_slice w ↦ search (rules, header_same)
  | else-eq+in_ok-extend_from_slice-2 w ↦ search (rules, header_same)
]

pub invariant_of-self-else-self-eq0 : goal.invariant_of-self-else-self-eq0
invariant_of-self-else-self-eq0 c = elim c.if-eq.branch [
  | then-eq+in_ok-extend_from_slice w ↦ search (rules, header_same)
  | else-eq+in_ok-extend_from_slice-2 w ↦ search (rules, header_same)
]
