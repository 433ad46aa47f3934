use Rattle.std.proofs.Common.{◌≡◌, ◌<◌, ◌∙◌, List, ℕ, get_or, length, refl, rules, subst, sym}
use Rattle.std.proofs.lemmas.Option.{slice_get_read}
use Rattle.osm_ids.specs.Strips.{HasNumber}
use Rattle.osm_ids.proofs.StripLemmas.{also_set, has_more, has_pushed, listed_set}
use Rattle.osm_ids.proofs.strips.list_at.Goals as goal

pub returns-clause-listed : goal.returns-clause-listed
returns-clause-listed c = λ below.
    let strips = c.args.strips.now.items in
    let pushed = listed_set strips c.args.index c.push.new.self below ∙ c.in_ok-push.ensures.items in
    subst (λ (numbers : List ℕ). HasNumber numbers c.args.number) (sym pushed) (has_pushed c.in-Some.strip.now.items c.args.number)

pub returns-clause-still : goal.returns-clause-still
returns-clause-still c =
    let strips = c.args.strips.now.items in
    let strip = c.in-Some.strip.now in
    let item = c.in-Some.ensures.item in
    let below : c.args.index < length strips = search (rules, item.0) in
    let is : strip ≡ get_or strips c.args.index strip = search rules in
    also_set strips c.args.index strip c.push.new.self (slice_get_read strips (length strips) c.args.index strip refl below is)
    (λ number there. subst (λ (numbers : List ℕ). HasNumber numbers number) (sym c.in_ok-push.ensures.items) (has_more strip.items _ number there))
