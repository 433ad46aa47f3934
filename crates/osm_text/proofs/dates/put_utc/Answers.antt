use Rattle.std.proofs.Common.{[], ◌∷◌, ◌++◌, ◌/◌, ◌%◌, ◌∙◌, ap}
use Rattle.osm_text.specs.Dates.{day_number, day_text, clock_text}
use Rattle.osm_text.proofs.TextLemmas.{four_parts}
use Rattle.osm_text.proofs.dates.put_utc.Goals as goal

pub returns : goal.returns
returns c =
    let day = c.in_ok-put_day.ensures ∙ ap (λ d. c.args.out.now.items ++ day_text d) c.day_number.ensures.day in
    four_parts _ _ _ _ _ (day_text (day_number (c.args.millis / 86400000))) (84 ∷ []) (clock_text (c.args.millis % 86400000)) (90 ∷ [])
    day c.in_ok-push.ensures.items c.in_ok-put_clock.ensures c.in_ok-push-2.ensures.items
