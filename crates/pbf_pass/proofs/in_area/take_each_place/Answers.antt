use Rattle.std.proofs.Common.{◌≡◌, List, sym, ap, ◌∙◌, rules}
use Rattle.std.specs.List.{fold}
use Rattle.pbf_dense.specs.declared.places.Place.{Place}
use Rattle.pbf_dense.specs.Places.{places_left}
use Rattle.pbf_pass.specs.EachArea.{node_placed}
use Rattle.pbf_pass.proofs.in_area.take_each_place.Goals as goal

pub loop-place-preserved : goal.loop-place-preserved
loop-place-preserved g c =
    let so_far = c.loop-place.invariant in
    let with = node_placed g.A.Area.area g.P.NodeTaker.step in
    let rest = places_left c.next.new.self in
    let step : c.take_place.new.self ≡ with c.loop-place.taking c.in-Some.place = search rules in
    record {
      can = so_far.can;
      ends = so_far.ends;
      taken =
          ap (λ t. fold with t rest) step
          ∙ ap (λ (ps : List Place). fold with c.loop-place.taking ps) (sym c.in-Some.ensures.steps)
          ∙ so_far.taken;
    }
