use Rattle.std.proofs.Common.{rules, arith, ◌≡◌, ◌-◌, ◌∷◌, suc, sym, ap, ◌∙◌, w64}
use Rattle.std.proofs.lemmas.Int.{to_z-of_z}
use mir.Val.{SFits}
use Rattle.pbf_wire.specs.Cursors.{sums_left}
use Rattle.pbf_wire.specs.Spans.{is_in, ArePassed}
use Rattle.pbf_wire.proofs.SpanLemmas.{one_past, same_test}
use Rattle.pbf_wire.proofs.sums.Sums.pass_alike.Goals as goal

pub alike-preserved : goal.alike-preserved
alike-preserved c =
    let values = sums_left c.args.self.now in
    let left = sums_left c.next_near.new.self in
    let value = c.in-Some.value in
    let fits : SFits w64 value = search rules in
    let one_more : c.args.most - (c.alike.left - 1) ≡ suc (c.args.most - c.alike.left) = omega (arith, c.alike.invariant.fewer, c.alike-test.true) in
    let there : is_in c.args.span value ≡ c.args.is_there =
    ap (is_in c.args.span) (sym (to_z-of_z w64 value fits)) ∙ sym c.has.ensures ∙ same_test c.has.result c.args.is_there c.if-has-is_there.false in
    let before : ArePassed c.args.span c.args.is_there values (value ∷ left) (c.args.most - c.alike.left) = (let e = c.in-Some.ensures in rw (sym e) c.alike.invariant.past) in
    record { past = rw one_more (one_past c.args.span c.args.is_there values left value (c.args.most - c.alike.left) before there); fewer = search rules }
