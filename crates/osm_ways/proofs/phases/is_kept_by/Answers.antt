use Rattle.std.proofs.Common.{arith}
use Rattle.std.proofs.Common.{◌≡◌, ◌∷◌, false, ap, sym, ◌∙◌, rules, w64}
use mir.Val.{SFits}
use Rattle.std.specs.FinSet as set
use Rattle.std.proofs.lemmas.Int.{to_z-of_z}
use Rattle.osm_entity.specs.Sources.{refs_left}
use Rattle.osm_ways.proofs.Shown.{passed_absent}
use Rattle.osm_ways.proofs.phases.is_kept_by.Goals as goal

pub refs-preserved : goal.refs-preserved
refs-preserved g c =
    let l = c.refs in
    let known = g.I.IdLookup.ids c.args.ids.now in
    let id = c.in-Some.id in
    let rest = refs_left c.next.new.self in
    let fits : SFits w64 id = search rules in
    let turn : refs_left l.rest ≡ id ∷ rest = c.in-Some.ensures.steps in
    let absent : set.contains known id ≡ false = ap (set.contains known) (sym (to_z-of_z w64 id fits)) ∙ sym c.has_near.ensures.has ∙ c.if-has_near.false in
    record {
      of = c.has_near.ensures.of;
      left = grind (arith, passed_absent rest known c.absent.result c.pass_inside.result (c.absent.ensures known c.has_near.ensures.of) c.pass_inside.ensures.inside, c.absent.ensures known c.has_near.ensures.of);
    }
