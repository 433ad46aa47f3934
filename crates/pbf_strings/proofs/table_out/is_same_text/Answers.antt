use Rattle.std.proofs.Common.{arith}
use Rattle.pbf_strings.proofs.SameTexts.{both_ends, first_end}
use Rattle.pbf_strings.proofs.table_out.is_same_text.Goals as goal
use Rattle.pbf_strings.proofs.table_out.is_same_text.Goals.{then-same_eight, else-same_eight, then-same_four, else-same_four}

pub returns-then-length-le16 : goal.returns-then-length-le16
returns-then-length-le16 c = elim c.if-same_eight.branch [
  | then-same_eight w ↦ rw w.result-is (both_ends 8 _ c.args.one.now c.args.other.now _ c.if-length-other.false (omega arith) (omega arith) (c.same_eight.ensures.0 w.if-same_eight.true) w.same_eight-then-same_eight.ensures)
  | else-same_eight w ↦ rw w.result-is (first_end 8 c.args.one.now c.args.other.now _ w.if-same_eight.false c.same_eight.ensures.1)
]

pub returns-then-length-lt8 : goal.returns-then-length-lt8
returns-then-length-lt8 c = elim c.if-same_four.branch [
  | then-same_four w ↦ rw w.result-is (both_ends 4 _ c.args.one.now c.args.other.now _ c.if-length-other.false (omega arith) (omega arith) (c.same_four.ensures.0 w.if-same_four.true) w.same_four-then-same_four.ensures)
  | else-same_four w ↦ rw w.result-is (first_end 4 c.args.one.now c.args.other.now _ w.if-same_four.false c.same_four.ensures.1)
]
