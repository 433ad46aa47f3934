use Rattle.std.proofs.Common.{◌≡◌, ◌<◌, length, get_or, rules}
use Rattle.std.proofs.lemmas.List.{length-map}
use Rattle.osm_polygon.specs.Strips.{lists_of}
use Rattle.osm_polygon.proofs.StripLemmas.{set_pushed, past_pushed}
use Rattle.osm_polygon.proofs.strips.push_at.Goals as goal

pub returns-in_ok-push : goal.returns-in_ok-push
returns-in_ok-push c =
    let strips = c.args.strips.now.items in
    let item = c.in-Some.ensures.item in
    let strip = c.in-Some.strip.now in
    let below : c.args.index < length strips = search (rules, item.0) in
    let is : strip ≡ get_or strips c.args.index strip = search rules in
    set_pushed strips c.args.index strip (record { edges = c.push.new.self }) c.args.edge below is c.in_ok-push.ensures.items

pub returns-in_default : goal.returns-in_default
returns-in_default c = past_pushed (lists_of c.args.strips.now.items) c.args.index c.args.edge (search (rules, length-map))
