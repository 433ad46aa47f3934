use Rattle.std.proofs.Common.{◌≡◌, sym, ap, ◌∙◌, rules, true, false, Option, Some, None, refl, length}
use Rattle.std.specs.Global.{Vec}
use Rattle.std.specs.List.{slice_get}
use Rattle.std.proofs.lemmas.Option.{slice_get_past, slice_get_read}
use Rattle.osm_box.specs.BoundingBox.{is_between}
use Rattle.osm_area.specs.Strips.{asked_at, listed_in, lon_strip}
use Rattle.osm_area.proofs.StripLemmas.{asked_by}
use Rattle.osm_area.proofs.strips.AreaStrips.at.Goals as goal

pub returns-then-not-have_lon : goal.returns-then-not-have_lon
returns-then-not-have_lon c =
    let beyond : is_between c.args.self.now.span.west c.args.self.now.span.east c.args.lon ≡ false = search rules in
    sym (asked_by c.args.self.now c.args.lon beyond)

pub returns-in-Some : goal.returns-in-Some
returns-in-Some c =
    let within : is_between c.args.self.now.span.west c.args.self.now.span.east c.args.lon ≡ true = search rules in
    let at : c.strip_with.result ≡ lon_strip c.args.self.now.span c.args.lon = search rules in
    let there : slice_get c.deref.result.now c.strip_with.result ≡ Some c.in-Some.strip.now = slice_get_read c.deref.result.now (length c.deref.result.now) c.strip_with.result c.in-Some.strip.now refl (search rules) (search rules) in
    let same : slice_get c.args.self.now.strips.items (lon_strip c.args.self.now.span c.args.lon) ≡ Some c.in-Some.strip.now = search rules in
    search rules ∙ sym (asked_by c.args.self.now c.args.lon within ∙ ap listed_in same)

pub returns-in-None : goal.returns-in-None
returns-in-None c =
    let within : is_between c.args.self.now.span.west c.args.self.now.span.east c.args.lon ≡ true = search rules in
    let at : c.strip_with.result ≡ lon_strip c.args.self.now.span c.args.lon = search rules in
    let past : slice_get c.deref.result.now c.strip_with.result ≡ None = slice_get_past c.deref.result.now c.strip_with.result (search rules) in
    let same : slice_get c.args.self.now.strips.items (lon_strip c.args.self.now.span c.args.lon) ≡ None = search rules in
    sym (asked_by c.args.self.now c.args.lon within ∙ ap listed_in same)
