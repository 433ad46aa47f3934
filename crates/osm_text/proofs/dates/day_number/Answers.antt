use Rattle.std.proofs.Common.{◌≡◌, ◌∙◌, ap, refl, pos, arith, rules, FitsSigned, w8, w16}
use Rattle.std.proofs.lemmas.Int.{to_z-of_z}
use Rattle.osm_text.specs.Dates.{day_number}
use Rattle.osm_text.proofs.DayLemmas.{date_is_day}
use Rattle.osm_text.proofs.dates.day_number.Goals as goal

pub overflow_cast-result : goal.overflow_cast-result
overflow_cast-result c =
    let fits : FitsSigned w16 c.year.result = search rules in
    let is = date_is_day c.args.days c.date_on-date.result (omega (arith, c.requires)) c.date_on-date.ensures in
    let year : c.year.result ≡ pos (day_number c.args.days).year = c.year.ensures ∙ is.0 in
    let small = rw year at c.year.type_inv in
    rw (to_z-of_z w16 _ fits, year) (search rules)

pub returns-clause-day : goal.returns-clause-day
returns-clause-day c =
    let is = date_is_day c.args.days c.date_on-date.result (omega (arith, c.requires)) c.date_on-date.ensures in
    let year_fits : FitsSigned w16 c.year.result = search rules in
    let month_fits : FitsSigned w8 c.month.result = search rules in
    let day_fits : FitsSigned w8 c.day.result = search rules in
    let year : c.year.result ≡ pos (day_number c.args.days).year = c.year.ensures ∙ is.0 in
    let month : c.month.result ≡ pos (day_number c.args.days).month = c.month.ensures ∙ ap pos is.1 in
    let day : c.day.result ≡ pos (day_number c.args.days).day = c.day.ensures ∙ ap pos is.2 in
    rw (to_z-of_z w16 _ year_fits, to_z-of_z w8 _ month_fits, to_z-of_z w8 _ day_fits, year, month, day) refl
