use Rattle.std.proofs.Common.{◌≡◌, ◌-◌, drop, length, ap, ◌∙◌, arith, rules}
use Rattle.pbf_wire.proofs.SpelledLemmas.{block_needed}
use Rattle.pbf_wire.proofs.spelled.are_needed_here.Goals as goal

pub returns : goal.returns
returns c = λ t.
    let block = c.args.block.now in
    let front = c.in-Some-Some.front.now in
    let back = c.in-Some-Some.back.now in
    let one : length block - 32 ≡ 1 = omega (arith, c.told-block) in
    block_needed block front back c.told-block c.in-Some-Some.ensures.cases.same (c.in-Some-Some.ensures'.cases.1.same ∙ ap (λ n. drop n block) one) (search rules)
