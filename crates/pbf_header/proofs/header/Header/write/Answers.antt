use Rattle.pbf_wire.proofs.WritingLemmas.{one_more, last_slot}
use Rattle.pbf_header.specs.WrittenHeader.{header_message}
use Rattle.pbf_header.proofs.header.Header.write.Goals as goal

pub returns : goal.returns
unfolding header_message
returns c =
    one_more _ _ _ _ _ c.in_ok-put_box.ensures
    (one_more _ _ _ _ _ (rw (c.deref-2.ensures.value, c.in_ok-required.ensures) at c.in_ok-put_each_text.ensures)
    (one_more _ _ _ _ _ (rw (c.deref-3.ensures.value, c.in_ok-optional.ensures, c.deref.ensures.value) at c.in_ok-put_each_text-2.ensures)
    (one_more _ _ _ _ _ c.in_ok-put_bytes.ensures
    (one_more _ _ _ _ _ c.in_ok-put_text.ensures
    (one_more _ _ _ _ _ c.in_ok-put_int64.ensures
    (one_more _ _ _ _ _ c.in_ok-put_int64-2.ensures
    (last_slot _ _ _ c.in_ok-put_text-2.ensures)))))))
