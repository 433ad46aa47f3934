use Rattle.std.proofs.Common.{ℕ, rules, List, sym, ap, ◌∙◌, ◌++◌}
use Rattle.std.proofs.lemmas.List.{append-nil}
use Rattle.pbf_wire.proofs.WritingLemmas.{each_none}
use Rattle.pbf_strings.proofs.WrittenTable.{one_text_more}
use Rattle.pbf_strings.proofs.table_out.put_texts.Goals as goal

pub loop-text-init : goal.loop-text-init
loop-text-init c = sym (ap (λ (w : List ℕ). c.args.out.now.items ++ w) (each_none 1) ∙ append-nil c.args.out.now.items)

pub loop-text-preserved : goal.loop-text-preserved
loop-text-preserved c =
    let put = c.in_ok-put_bytes.ensures {u = tt} in
    one_text_more (λ text. text.items) c.args.texts.now c.loop-text.text-index c.text-item.result c.args.out.now.items c.loop-text.out.items c.put_bytes.new.out.items
    (search rules) c.text-item.is c.loop-text.invariant (rw c.deref.ensures.value at put)
