use Rattle.std.proofs.Common.{◌≡◌, refl, sym, ◌∙◌, rules}
use Rattle.std.specs.Prelude.{None}
use Rattle.pbf_block.proofs.PlainLemmas.{clean_way}
use Rattle.pbf_block.proofs.plain.is_plain_way.Goals as goal

pub returns-then-message-le-MOST_WAY_BYTES : goal.returns-then-message-le-MOST_WAY_BYTES
returns-then-message-le-MOST_WAY_BYTES c = λ short place.
    let m = c.args.message in
    let id : c.judge_wide.result ≡ None = search rules in
    clean_way m c.in-Some.way c.in-Some-plain_info.info c.args.limit place (c.in-Some.ensures m.at) c.in-Some-plain_info.ensures (sym id ∙ c.judge_wide.ensures)
    (c.if-not-is_info_valued.ensures refl)
    (c.if-not-are_tags.ensures refl)
    c.if-message-le-MOST_WAY_BYTES.true
    (c.is_short.ensures short)
