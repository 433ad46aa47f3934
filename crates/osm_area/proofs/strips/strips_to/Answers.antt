use Rattle.std.proofs.Common.{◌≡◌, sym, ap, subst, ◌∙◌, arith, rules, ◌+◌, length}
use Rattle.std.proofs.lemmas.List.{length_push}
use Rattle.osm_area.specs.Strips.{ListBoxes, is_met, tested_numbers}
use Rattle.osm_area.proofs.StripLemmas.{strip_more}
use Rattle.osm_area.proofs.strips.strips_to.Goals as goal

pub strips-preserved : goal.strips-preserved
strips-preserved c =
    let so_far = c.strips.invariant in
    let strip = c.in_ok-met_in.field-0 in
    let here : 0 + length c.strips.strips.items ≡ c.strips.number = omega (arith, so_far.number) in
    let is : strip.items ≡ tested_numbers (is_met c.args.span (0 + length c.strips.strips.items)) 0 c.args.boxes.now = c.in_ok-met_in.ensures ∙ ap (λ n. tested_numbers (is_met c.args.span n) 0 c.args.boxes.now) (sym here) in
    rw c.in_ok-push.ensures.items (record {
      are = strip_more c.args.span 0 c.args.boxes.now c.strips.strips.items strip so_far.are is;
      number = omega (arith, so_far.number, length_push c.strips.strips.items strip);
      ends = search rules;
    })
