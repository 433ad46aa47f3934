use Rattle.std.proofs.Common.{[], ◌∷◌, ◌++◌, ◌/◌, ◌%◌}
use Rattle.std.proofs.lemmas.Result.{on_ok_weaker}
use Rattle.osm_text.specs.Dates.{two_digits, three_digits}
use Rattle.osm_text.proofs.TextLemmas.{four_parts, part_then}
use Rattle.osm_text.proofs.dates.put_clock.Goals as goal

pub returns : goal.returns
returns c =
    let before = c.args.out.now.items in
    let millis = c.args.millis in
    let hours = two_digits (millis / 3600000) in
    let minutes = two_digits (millis / 60000 % 60) in
    let seconds = two_digits (millis / 1000 % 60) in
    let last = three_digits (millis % 1000) in
    let to_minutes = hours ++ 58 ∷ [] ++ minutes ++ 58 ∷ [] in
    let to_seconds = to_minutes ++ seconds in
    let to_point = to_seconds ++ 46 ∷ [] in
    let first = four_parts before _ _ _ _ hours (58 ∷ []) minutes (58 ∷ [])
    c.in_ok-put_two_digits.ensures c.in_ok-push.ensures.items c.in_ok-put_two_digits-2.ensures c.in_ok-push-2.ensures.items in
    let second = part_then before _ _ to_minutes seconds first c.in_ok-put_two_digits-3.ensures in
    let third = part_then before _ _ to_seconds (46 ∷ []) second c.in_ok-push-3.ensures.items in
    on_ok_weaker c.put_three_digits.result (part_then before c.push-3.new.self.items c.put_three_digits.new.out.items to_point last third) c.put_three_digits.ensures
