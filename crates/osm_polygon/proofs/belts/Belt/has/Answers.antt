use Rattle.std.proofs.Common.{ℕ, subst, ◌∙◌}
use Rattle.std.specs.Prelude.{filter}
use Rattle.osm_polygon.specs.declared.belts.Belt.{Belt}
use Rattle.osm_polygon.specs.declared.edge.Axis.TheVariants.{Latitude}
use Rattle.osm_polygon.specs.Edges.{is_in_strip}
use Rattle.osm_polygon.specs.Belts.{IsBelt, AreBeltBands}
use Rattle.osm_polygon.proofs.BandLemmas.{amid, even_border}
use Rattle.osm_polygon.proofs.belts.Belt.has.Goals as goal

pub returns-in-One : goal.returns-in-One
returns-in-One c = λ edges is here closed.
    let asked = c.args.asked in
    let border = asked.border in
    let one = subst (λ (b : Belt). IsBelt border.shift border.band edges b) c.in-One.is is in
    c.has.ensures (filter (is_in_strip Latitude border.shift border.band) edges) one here (even_border border edges closed)
    ∙ amid asked here edges closed

pub returns-in-Many : goal.returns-in-Many
returns-in-Many c = λ edges is here closed.
    let border = c.args.asked.border in
    let many = subst (λ (b : Belt). IsBelt border.shift border.band edges b) c.in-Many.is is in
    c.has-in-Many.ensures border.shift edges (subst (λ (n : ℕ). AreBeltBands border.shift n edges c.in-Many.parts) here many) closed
