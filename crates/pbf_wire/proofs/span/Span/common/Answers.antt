use Rattle.std.proofs.Common.{rules, ◌≡◌, true, w64}
use Rattle.std.specs.Prelude.{◌≤ℤ◌}
use Rattle.std.proofs.lemmas.Int.{to_z-of_z}
use mir.Val.{SFits}
use Rattle.pbf_wire.specs.declared.span.Span.{Span}
use Rattle.pbf_wire.specs.Spans.{is_in}
use Rattle.pbf_wire.proofs.SpanLemmas.{wider_has}
use Rattle.pbf_wire.proofs.span.Span.common.Goals as goal

pub returns : goal.returns
returns c = λ number there.
    let above = c.max.result in
    let below = c.min.result in
    let span : Span = record { above = above; below = below } in
    let above_fits : SFits w64 above = search rules in
    let below_fits : SFits w64 below = search rules in
    let inside : is_in span number ≡ true = rw (← to_z-of_z w64 above above_fits, ← to_z-of_z w64 below below_fits) there in
    let over_self : c.args.self.above ≤ℤ above = search rules in
    let under_self : below ≤ℤ c.args.self.below = search rules in
    let over_other : c.args.other.above ≤ℤ above = search rules in
    let under_other : below ≤ℤ c.args.other.below = search rules in
    (wider_has span c.args.self number over_self under_self inside, wider_has span c.args.other number over_other under_other inside)
