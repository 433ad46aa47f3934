use Rattle.std.proofs.Common.{◌≡◌, ◌+◌, ◌-◌, ◌≤◌, ℕ, List, length, Some, refl, ap, subst, ◌∙◌, rules, arith}
use Rattle.std.specs.Prelude.{filter}
use Rattle.std.specs.List.{slice_get}
use Rattle.std.proofs.lemmas.Option.{slice_get_read}
use Rattle.osm_polygon.specs.declared.edge.Axis.TheVariants.{Latitude}
use Rattle.osm_polygon.specs.declared.bands.Band.{Band}
use Rattle.osm_polygon.specs.Edges.{strip_number, is_in_strip}
use Rattle.osm_polygon.specs.Bands.{IsBand}
use Rattle.osm_polygon.proofs.BandLemmas.{amid, band_at, even_border}
use Rattle.osm_polygon.proofs.BeltLemmas.{narrow_at}
use Rattle.osm_polygon.proofs.belts.BeltBands.has.Goals as goal

pub returns-then-number-self : goal.returns-then-number-self
returns-then-number-self c = λ shift edges is closed.
    let place = c.args.place in
    absurd (omega (arith, c.if-number-self.true, c.strip_of-number.ensures.value, is.begun place refl))

pub returns-in_default : goal.returns-in_default
returns-in_default c = λ shift edges is closed.
    let a = c.args.self.now in
    let i = c.strip_of-number.result - a.first in
    let past : length c.deref.result.now ≤ i = search (rules, c.in_default.ensures.lookup.0) in
    absurd (omega (arith, past, ap length c.deref.ensures.value, c.strip_of-number.ensures.value, c.if-number-self.false, is.ends c.args.place refl))

pub has-requires-clause-cells : goal.has-requires-clause-cells
has-requires-clause-cells c =
    let a = c.args.self.now in
    let i = c.strip_of-number.result - a.first in
    let band = c.in-Some.band.now in
    let item = c.in-Some.ensures.lookup.3 in
    let found : slice_get a.bands.items i ≡ Some band
    = subst (λ (l : List Band). slice_get l i ≡ Some band) c.deref.ensures.value
    (slice_get_read c.deref.result.now (length c.deref.result.now) i band refl item.0 (search (rules, item.1 band))) in
    narrow_at a.bands.items i band c.requires.cells found

pub returns : goal.returns
returns c = λ shift edges is closed.
    let a = c.args.self.now in
    let place = c.args.place in
    let number = c.strip_of-number.result in
    let i = number - a.first in
    let band = c.in-Some.band.now in
    let item = c.in-Some.ensures.lookup.3 in
    let found : slice_get a.bands.items i ≡ Some band
    = subst (λ (l : List Band). slice_get l i ≡ Some band) c.deref.ensures.value
    (slice_get_read c.deref.result.now (length c.deref.result.now) i band refl item.0 (search (rules, item.1 band))) in
    let at : a.first + i ≡ number = omega (arith, c.if-number-self.false) in
    let here : number ≡ strip_number Latitude a.shift place = c.strip_of-number.ensures.value in
    let one : IsBand (record { shift = a.shift; band = number }) (filter (is_in_strip Latitude a.shift number) edges) band
    = subst (λ (n : ℕ). IsBand (record { shift = a.shift; band = n }) (filter (is_in_strip Latitude a.shift n) edges) band) at
    (band_at a.shift a.first edges a.bands.items i band is.bands found) in
    c.has.ensures (filter (is_in_strip Latitude a.shift number) edges) one here
    (even_border (record { shift = a.shift; band = number }) edges closed)
    ∙ amid (record { place = place; border = record { shift = a.shift; band = number } }) here edges closed
