use Rattle.std.proofs.Common.{rules, ◌≡◌, ◌&&◌, true, false, refl, ap₂, sym, ◌∙◌, w64}
use mir.Val.{SFits}
use Rattle.std.proofs.lemmas.Int.{to_z-of_z}
use Rattle.pbf_wire.specs.Spans.{is_in}
use Rattle.pbf_dense.specs.Within.{ids_within_left}
use Rattle.pbf_dense.proofs.WithinLemmas.{no_lats, fewer}
use Rattle.pbf_dense.proofs.within.IdsWithinIterator.next.Goals as goal

pub returns-in_err-id-clause-steps : goal.returns-in_err-id-clause-steps
unfolding ids_within_left
returns-in_err-id-clause-steps c =
    let none = c.in_err-id.ensures.steps in
    rw c.from_residual.ensures (sym c.nodes.invariant ∙ c.in-Some.ensures.left ∙ rw none.0 refl, rw none.1 refl)

pub returns-in_err-lat-clause-steps : goal.returns-in_err-lat-clause-steps
unfolding ids_within_left
returns-in_err-lat-clause-steps c =
    let none = c.in_err-lat.ensures.steps in
    rw c.from_residual-in_err-lat.ensures (sym c.nodes.invariant ∙ c.in-Some.ensures.left ∙ rw none.0 (no_lats _ _ _ _), rw none.1 (no_lats _ _ _ _))

pub returns-then-has_place-clause-steps : goal.returns-then-has_place-clause-steps
unfolding ids_within_left
returns-then-has_place-clause-steps c =
    let it = c.next_lon.new.self in
    let id : SFits w64 c.in_ok-id.id = search rules in
    let lat : SFits w64 c.in_ok-lat.lat = search rules in
    let lon : SFits w64 c.in-Some.lon = search rules in
    let there = c.has_place.ensures ∙ ap₂ (λ y x. is_in it.lat_span y && is_in it.lon_span x) (to_z-of_z w64 c.in_ok-lat.lat lat) (to_z-of_z w64 c.in-Some.lon lon) in
    let inside : (is_in it.lat_span c.in_ok-lat.lat && is_in it.lon_span c.in-Some.lon) ≡ true = sym there ∙ c.if-has_place.true in
    rw (to_z-of_z w64 c.in_ok-id.id id) (sym c.nodes.invariant ∙ c.in-Some.ensures.left ∙ rw (c.in_ok-id.ensures.steps, c.in_ok-lat.ensures.steps, inside) refl)

pub returns-then-has_place-clause-goes : goal.returns-then-has_place-clause-goes
returns-then-has_place-clause-goes c = record { on = λ _. (tt, tt, fewer _ _ _ (returns-then-has_place-clause-steps c)); keeps = tt; rests = λ _. tt }

pub nodes-preserved : goal.nodes-preserved
unfolding ids_within_left
nodes-preserved c =
    let it = c.next_lon.new.self in
    let lat : SFits w64 c.in_ok-lat.lat = search rules in
    let lon : SFits w64 c.in-Some.lon = search rules in
    let there = c.has_place.ensures ∙ ap₂ (λ y x. is_in it.lat_span y && is_in it.lon_span x) (to_z-of_z w64 c.in_ok-lat.lat lat) (to_z-of_z w64 c.in-Some.lon lon) in
    let outside : (is_in it.lat_span c.in_ok-lat.lat && is_in it.lon_span c.in-Some.lon) ≡ false = sym there ∙ c.if-has_place.false in
    sym (sym c.nodes.invariant ∙ c.in-Some.ensures.left ∙ rw (c.in_ok-id.ensures.steps, c.in_ok-lat.ensures.steps, outside) refl)
