use Rattle.std.proofs.Common.{◌≡◌, sym, ap, subst, ◌∙◌, rules, List}
use Rattle.std.proofs.lemmas.Result.{on_ok_weaker}
use Rattle.osm_area.specs.Area.{AreaSpec}
use Rattle.osm_area.specs.Strips.{asked_at}
use Rattle.pbf_dense.specs.Cursors.{dense_left}
use Rattle.pbf_pass.specs.EachArea.{AreEnough}
use Rattle.pbf_pass.proofs.EachAreaLemmas.{areas_outside, nothing_taken, some_taken}
use Rattle.pbf_pass.proofs.each_area.take_by_strips.Goals as goal

pub returns-then-is_empty : goal.returns-then-is_empty
returns-then-is_empty g c = nothing_taken g.A.Area.area g.P.NodeTaker.step c.places.result c.next-first.new.self c.next-first.result c.next-first.ensures.steps (dense_left c.args.dense.now) c.args.members.now (search rules) c.places.ensures

pub take_places_asked-requires-clause-asks : goal.take_places_asked-requires-clause-asks
take_places_asked-requires-clause-asks g c lon = subst (λ (areas : List AreaSpec). AreEnough lon 0 areas (asked_at c.args.strips.now lon)) (sym (areas_outside g.A.Area.area g.P.NodeTaker.step c.take_outside_each.new.members c.args.members.now c.take_outside_each.ensures.taken)) (c.requires lon)

pub returns : goal.returns
returns g c = on_ok_weaker c.take_places_asked.result
    (some_taken g.A.Area.area g.P.NodeTaker.step c.places.result c.next-first.new.self c.next-first.result c.next-first.ensures.steps (dense_left c.args.dense.now) c.args.members.now c.take_outside_each.new.members c.take_places_asked.new.members (search rules) c.places.ensures c.take_outside_each.ensures.taken c.take_outside_each.ensures.ready)
    c.take_places_asked.ensures
