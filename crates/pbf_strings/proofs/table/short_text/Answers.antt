use Rattle.std.proofs.Common.{arith}
use Rattle.std.proofs.lemmas.List.{take_rest}
use Rattle.pbf_strings.proofs.TextsLemmas.{short_text_is}
use Rattle.pbf_strings.proofs.table.short_text.Goals as goal

pub returns : goal.returns
returns c = λ at.
    let size = c.from-length.ensures in
    rw take_rest (short_text_is at c.args.fields.now _ (omega (arith, c.in-len2-up.len_at_least)) (omega (arith, c.if-tag-ne10.false)) (omega (arith, size)) (omega (arith, c.if-not-is_one_byte.false)) (omega (arith, c.if-rest-length.false)))
