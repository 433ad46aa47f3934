use Rattle.std.proofs.Common.{Bool, ◌≡◌, ◌∙◌, ◌&&◌, true, ap, sym, w64}
use Rattle.std.proofs.lemmas.Int.{to_z-of_z}
use Rattle.pbf_wire.specs.Spans.{is_in}
use Rattle.pbf_dense.proofs.within.IdsWithin.has_place.Goals as goal

pub returns-then-has : goal.returns-then-has
returns-then-has c =
    let it = c.args.self.now in
    let inside : is_in it.lat_span c.args.lat ≡ true = ap (is_in it.lat_span) (sym (to_z-of_z w64 c.args.lat c.ranges.lat)) ∙ sym c.has.ensures ∙ c.if-has.true in
    c.has-then-has.ensures ∙ ap (is_in it.lon_span) (to_z-of_z w64 c.args.lon c.ranges.lon) ∙ ap (λ (b : Bool). b && is_in it.lon_span c.args.lon) (sym inside)
