use Rattle.std.proofs.Common.{rules}
use Rattle.pbf_header.specs.WrittenHeader.{box_message}
use Rattle.pbf_wire.proofs.WritingLemmas.{one_more, last_slot}
use Rattle.pbf_header.proofs.WritingLemmas.{edge_put}
use Rattle.pbf_header.proofs.write.put_edge_fields.Goals as goal

pub returns : goal.returns
unfolding box_message
returns c =
    let b = c.args.bbox in
    one_more _ _ _ _ _ (edge_put 1 _ b.left _ _ (search rules) c.zigzag.ensures c.in_ok-put_number.ensures)
    (one_more _ _ _ _ _ (edge_put 2 _ b.right _ _ (search rules) c.zigzag-2.ensures c.in_ok-put_number-2.ensures)
    (one_more _ _ _ _ _ (edge_put 3 _ b.top _ _ (search rules) c.zigzag-3.ensures c.in_ok-put_number-3.ensures)
    (last_slot _ _ _ (edge_put 4 _ b.bottom _ _ (search rules) c.zigzag-4.ensures c.in_ok-put_number-4.ensures))))
