use Rattle.std.proofs.Common.{◌≡◌, ◌+◌, ◌-◌, ◌*◌, ◌^◌, List, ap, subst, arith}
use Rattle.osm_polygon.specs.declared.edge.Edge.{Edge}
use Rattle.osm_polygon.specs.declared.strips.StripRange.{StripRange}
use Rattle.osm_polygon.specs.Bands.{IsBand, AreBands}
use Rattle.osm_polygon.proofs.BeltLemmas.{are_belt_bands}
use Rattle.osm_polygon.proofs.belts.belt_of.Goals as goal

pub returns-then-cut-border-clause-is : goal.returns-then-cut-border-clause-is
returns-then-cut-border-clause-is c = λ all same.
    subst (λ (l : List Edge). IsBand c.args.border l c.in_ok-band_of.field-0) same c.in_ok-band_of.ensures.is

pub returns-clause-is : goal.returns-clause-is
returns-clause-is c = λ all same.
    let shift = c.args.border.shift in
    let number = c.args.border.band in
    let cut = c.choose_parts-cut.result in
    let bands = c.in_ok-bands.bands in
    let first : cut.first ≡ number * 2 ^ (shift - cut.shift) = ap (λ (k : StripRange). k.first) c.choose_parts-cut.ensures.are in
    let end : cut.end ≡ (number + 1) * 2 ^ (shift - cut.shift) = ap (λ (k : StripRange). k.end) c.choose_parts-cut.ensures.are in
    are_belt_bands shift number all (record { bands = bands; first = cut.first; shift = cut.shift }) c.choose_parts-cut.ensures.width c.requires.width
    first
    (omega (arith, c.in_ok-bands.ensures.number, first, end))
    (subst (λ (l : List Edge). AreBands cut.shift cut.first l bands.items) same c.in_ok-bands.ensures.are)
