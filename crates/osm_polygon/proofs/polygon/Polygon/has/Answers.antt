use Rattle.std.proofs.Common.{◌≡◌, ◌+◌, ◌-◌, ◌<◌, ◌≤◌, ℕ, List, length, Some, inl, inr, false, sym, refl, ap, subst, ◌∙◌, rules, arith}
use Rattle.std.specs.List.{slice_get}
use Rattle.std.proofs.lemmas.Option.{slice_get_read}
use Rattle.osm_polygon.specs.declared.edge.Axis.TheVariants.{Latitude}
use Rattle.osm_polygon.specs.declared.belts.Belt.{Belt}
use Rattle.osm_polygon.specs.Polygon.{PolygonSpec, is_amid_edges}
use Rattle.osm_polygon.specs.Edges.{point_of, strip_number}
use Rattle.osm_polygon.specs.Bands.{is_told}
use Rattle.osm_polygon.specs.Belts.{IsBelt}
use Rattle.osm_polygon.proofs.StripLemmas.{none_beyond}
use Rattle.osm_polygon.proofs.BandLemmas.{amid}
use Rattle.osm_polygon.proofs.BeltLemmas.{belt_at, belt_narrow}
use Rattle.osm_polygon.proofs.polygon.Polygon.has.Goals as goal

pub returns-then-number-self : goal.returns-then-number-self
returns-then-number-self c =
    let a = c.self.inside in
    let edges = a.edges.items in
    let place = c.args.place in
    let n = strip_number Latitude a.shift place in
    let before : n < a.first = search rules in
    let none = none_beyond Latitude a.shift a.first (a.first + length a.belts.items) n edges c.self.invariant.1 (inl before) in
    ap (is_told (record { place = place; border = record { shift = a.shift; band = n } }) false) (sym none)
    ∙ amid (record { place = place; border = record { shift = a.shift; band = n } }) refl edges c.self.invariant.2
    ∙ ap (λ (v : PolygonSpec). is_amid_edges v.sides (point_of place)) c.self.view_is

pub returns-in_default : goal.returns-in_default
returns-in_default c =
    let a = c.self.inside in
    let edges = a.edges.items in
    let place = c.args.place in
    let n = strip_number Latitude a.shift place in
    let i = c.strip_of-number.result - a.first in
    let past : length c.deref.result.now ≤ i = search (rules, c.in_default.ensures.lookup.0) in
    let beyond : a.first + length a.belts.items ≤ n
    = omega (arith, past, ap length c.deref.ensures.value, c.strip_of-number.ensures.value, c.if-number-self.false) in
    let none = none_beyond Latitude a.shift a.first (a.first + length a.belts.items) n edges c.self.invariant.1 (inr beyond) in
    ap (is_told (record { place = place; border = record { shift = a.shift; band = n } }) false) (sym none)
    ∙ amid (record { place = place; border = record { shift = a.shift; band = n } }) refl edges c.self.invariant.2
    ∙ ap (λ (v : PolygonSpec). is_amid_edges v.sides (point_of place)) c.self.view_is

pub has-requires-clause-narrow : goal.has-requires-clause-narrow
has-requires-clause-narrow c =
    let a = c.self.inside in
    let i = c.strip_of-number.result - a.first in
    let belt = c.in-Some.belt.now in
    let item = c.in-Some.ensures.lookup.3 in
    let found : slice_get a.belts.items i ≡ Some belt
    = subst (λ (l : List Belt). slice_get l i ≡ Some belt) c.deref.ensures.value
    (slice_get_read c.deref.result.now (length c.deref.result.now) i belt refl item.0 (search (rules, item.1 belt))) in
    belt_narrow a.shift (a.first + i) a.edges.items belt (belt_at a.shift a.first a.edges.items a.belts.items i belt c.self.invariant.0 found)

pub returns : goal.returns
returns c =
    let edges = c.self.inside.edges.items in
    let number = c.strip_of-number.result in
    let a = c.self.inside in
    let i = c.strip_of-number.result - a.first in
    let belt = c.in-Some.belt.now in
    let item = c.in-Some.ensures.lookup.3 in
    let found : slice_get a.belts.items i ≡ Some belt
    = subst (λ (l : List Belt). slice_get l i ≡ Some belt) c.deref.ensures.value
    (slice_get_read c.deref.result.now (length c.deref.result.now) i belt refl item.0 (search (rules, item.1 belt))) in
    let at : a.first + i ≡ number = omega (arith, c.if-number-self.false) in
    let is : IsBelt a.shift number edges belt
    = subst (λ (n : ℕ). IsBelt a.shift n edges belt) at (belt_at a.shift a.first edges a.belts.items i belt c.self.invariant.0 found) in
    c.has.ensures edges is c.strip_of-number.ensures.value c.self.invariant.2
    ∙ ap (λ (v : PolygonSpec). is_amid_edges v.sides (point_of c.args.place)) c.self.view_is
