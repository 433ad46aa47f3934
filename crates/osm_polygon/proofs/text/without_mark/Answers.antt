use Rattle.std.proofs.Common.{◌≡◌, ◌++◌, sym, refl, rules}
use Rattle.std.specs.Char.{encode_utf8}
use Rattle.osm_polygon.proofs.MarkLemmas.{mark_gone, no_mark}
use Rattle.osm_polygon.proofs.text.without_mark.Goals as goal

pub returns-in-None : goal.returns-in-None
returns-in-None c = rw (no_mark c.args.text.now c.in-None.ensures.cases) refl

pub returns-in-Some : goal.returns-in-Some
returns-in-Some c =
    let front : c.args.text.now ≡ encode_utf8 65279 ++ c.in-Some.rest.now = search rules in
    rw front (sym (mark_gone c.in-Some.rest.now))
