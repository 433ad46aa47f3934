use Rattle.std.proofs.Common.{◌≡◌, map, sym, ap, rules, ◌∙◌}
use Rattle.std.specs.List.{fold}
use Rattle.std.proofs.lemmas.Result.{on_ok_weaker}
use Rattle.osm_area.specs.Area.{box_area}
use Rattle.osm_entity.specs.Entity.{node}
use Rattle.osm_ways.specs.Whole.{is_wanted}
use Rattle.pbf_dense.specs.Cursors.{dense_left}
use Rattle.pbf_pass.specs.Pass.{with_seen}
use Rattle.pbf_pass.proofs.GatherLemmas.{beside}
use Rattle.pbf_pass.proofs.in_area.take_places.Goals as goal

pub returns-in-Some : goal.returns-in-Some
returns-in-Some g c =
    let of = c.args.taking.now in
    let step = g.P.NodeTaker.step in
    let es = map node (dense_left c.args.dense.now) in
    let whole = is_wanted of.types in
    let there : g.A.Area.area of.area ≡ box_area c.in-Some.within.area = search rules in
    on_ok_weaker c.take_within.result (λ e. ap (λ p. record of { phase = p }) (e ∙ ap (λ area. fold (with_seen whole area step) of.phase es) (sym there)) ∙ beside g.A.Area.area step of es) (c.take_within.ensures whole)
