use Rattle.std.proofs.Common.{pos, ◌∙◌, arith, rules, FitsSigned, w64}
use Rattle.std.proofs.lemmas.Int.{to_z-of_z}
use Rattle.jiff.proofs.SpanFacts.{signed_arith, date_add-days, can_add-days}
use Rattle.osm_text.proofs.DayLemmas.{first_day}
use Rattle.osm_text.proofs.dates.date_on.Goals as goal

pub unreachable-requires : goal.unreachable-requires
unreachable-requires c =
    let fits : FitsSigned w64 (pos c.args.days) = search rules in
    let only = simp (to_z-of_z, fits) at c.days.ensures in
    let zero = first_day c.date-first.result (search rules) (search rules) (search rules) in
    let can = can_add-days c.date-first.result (pos c.args.days) c.days.result only in
    let never = c.in_default.ensures.succeeds.1 (can.1 (rw zero (omega (arith, signed_arith)))) in
    cc

pub returns : goal.returns
returns c =
    let fits : FitsSigned w64 (pos c.args.days) = search rules in
    let only = simp (to_z-of_z, fits) at c.days.ensures in
    let zero = first_day c.date-first.result (search rules) (search rules) (search rules) in
    let added = c.in-Ok.ensures.value ∙ date_add-days c.date-first.result (pos c.args.days) c.days.result only in
    omega (arith, signed_arith, added, zero)
