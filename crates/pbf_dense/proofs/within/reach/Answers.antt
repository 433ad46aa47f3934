use Rattle.std.proofs.Common.{rules, ◌≡◌, ◌+◌, false, sym, ap, ◌∙◌, w64}
use mir.Val.{SFits}
use Rattle.std.proofs.lemmas.Int.{to_z-of_z}
use Rattle.pbf_wire.specs.Cursors.{sums_left}
use Rattle.pbf_wire.specs.Spans.{is_in}
use Rattle.pbf_dense.proofs.WithinLemmas.{more_passed, one_more_passed, all_passed}
use Rattle.pbf_dense.proofs.within.reach.Goals as goal

pub returns-clause-outside : goal.returns-clause-outside
returns-clause-outside c =
    all_passed (sums_left c.args.values.now) (sums_left c.values.values) c.args.span c.values.skipped c.values.invariant c.in_default.ensures.steps.0

pub values-preserved : goal.values-preserved
values-preserved c =
    let all = sums_left c.args.values.now in
    let rest = sums_left c.next.new.self in
    let value = c.in-Some.value in
    let fits : SFits w64 value = search rules in
    let outside : is_in c.args.span value ≡ false = ap (is_in c.args.span) (sym (to_z-of_z w64 value fits)) ∙ sym c.has.ensures ∙ c.if-has.false in
    let one = one_more_passed all (sums_left c.values.values) rest c.args.span c.values.skipped value c.values.invariant c.in-Some.ensures.steps outside in
    more_passed all rest (sums_left c.pass_outside-skipped-in-Some.new.self) c.args.span (c.values.skipped + 1) c.pass_outside-skipped-in-Some.result one c.pass_outside-skipped-in-Some.ensures.past
