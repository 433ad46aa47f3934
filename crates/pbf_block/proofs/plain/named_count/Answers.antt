use Rattle.std.proofs.Common.{◌≡◌, sym, ◌∙◌, rules}
use Rattle.std.specs.Prelude.{None, Ok}
use Rattle.std.proofs.lemmas.List.{take_rest}
use Rattle.std.proofs.lemmas.Bool.{eqb-true}
use Rattle.pbf_wire.specs.Varint.{varint_at}
use Rattle.pbf_block.proofs.PlainLemmas.{named_more, named_all, varint_here}
use Rattle.pbf_block.proofs.plain.named_count.Goals as goal

pub numbers-preserved : goal.numbers-preserved
numbers-preserved c =
    let none : c.judge_index.result ≡ None = search rules in
    let read : varint_at c.numbers.rest.now ≡ Ok (c.in-Ok.number, c.in-Ok.after) = varint_here c.numbers.rest.now c.in-Ok.number c.in-Ok.after (sym c.get_varint.ensures.exact ∙ c.in-Ok.is) in
    rw take_rest (named_more c.args.limit c.numbers.count c.in-Ok.number c.in-Ok.after c.numbers.rest.now c.args.packed.now c.numbers.invariant c.in-Ok.ensures.found.0 c.in-Ok.ensures.found.1 read (sym none ∙ c.judge_index.ensures))

pub returns : goal.returns
returns c = named_all c.args.limit c.numbers.count c.numbers.rest.now c.args.packed.now c.numbers.invariant (eqb-true _ _ (sym c.is_empty.ensures ∙ c.numbers-test.false))
