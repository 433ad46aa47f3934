use Rattle.std.proofs.Common.{◌≡◌, sym, ap, ◌∙◌, arith, rules}
use Rattle.std.specs.Prelude.{Ok, slice_index}
use Rattle.pbf_block.proofs.PlainLemmas.{short_after}
use Rattle.pbf_block.proofs.plain.after_tag.Goals as goal

pub returns-then-second-lt128 : goal.returns-then-second-lt128
returns-then-second-lt128 c =
    let m = c.args.bytes.now in
    let long = c.in-len2-up.len_at_least in
    let first : slice_index m 0 ≡ c.args.tag = search rules in
    (omega (arith, long), first, short_after m (omega (arith, long)) c.if-second-lt128.true ∙ ap (λ b. Ok (b, 1)) (sym c.from.ensures), omega arith, omega (arith, long))
