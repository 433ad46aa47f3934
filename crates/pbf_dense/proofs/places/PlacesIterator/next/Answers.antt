use Rattle.std.proofs.Common.{refl, rules}
use mir.Syntax.{w64, w128}
use mir.Val.{SFits}
use Rattle.std.proofs.lemmas.Int.{to_z-of_z}
use Rattle.pbf_dense.specs.Places.{places_left}
use Rattle.pbf_dense.proofs.places.PlacesIterator.next.Goals as goal

pub returns-clause-steps : goal.returns-clause-steps
unfolding places_left
returns-clause-steps c =
    let id : SFits w64 c.in_ok-id.id = search rules in
    let lat : SFits w64 c.in_ok-lat.lat = search rules in
    let lon : SFits w64 c.in_ok-lon.lon = search rules in
    let nano_lat : SFits w128 c.nano_lat.result = search rules in
    let nano_lon : SFits w128 c.nano_lon.result = search rules in
    rw (
      c.in_ok-id.ensures.steps,
      c.in_ok-lat.ensures.steps,
      c.in_ok-lon.ensures.steps,
      to_z-of_z w64 c.in_ok-id.id id,
      to_z-of_z w128 c.nano_lat.result nano_lat,
      c.nano_lat.ensures,
      to_z-of_z w64 c.in_ok-lat.lat lat,
      to_z-of_z w128 c.nano_lon.result nano_lon,
      c.nano_lon.ensures,
      to_z-of_z w64 c.in_ok-lon.lon lon,
    ) refl
