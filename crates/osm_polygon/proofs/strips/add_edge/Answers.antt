use Rattle.std.proofs.Common.{◌≡◌, ◌+◌, ◌-◌, ◌≤◌, ◌<◌, ◌∙◌, ap, sym, arith, rules}
use Rattle.std.specs.Prelude.{max}
use Rattle.std.proofs.lemmas.List.{length-map}
use Rattle.osm_polygon.specs.Strips.{edges_held, lists_of, pushed_at}
use Rattle.osm_polygon.specs.Edges.{lowest, highest}
use Rattle.osm_polygon.proofs.StripLemmas.{in_strip_below, with_none, none_below, next_pushed, pushed_held, all_pushed}
use Rattle.osm_polygon.proofs.strips.add_edge.Goals as goal

pub loop-number-init : goal.loop-number-init
loop-number-init c =
    let axis = c.args.cut.axis in
    let shift = c.args.cut.shift in
    let e = c.args.edge in
    let first = c.args.cut.first in
    let from : c.first_of-from.result ≡ max (lowest axis shift e) first = search rules in
    record {
      with = sym (with_none (in_strip_below axis shift e c.first_of-from.result) e first (lists_of c.args.strips.now.items) (λ n le. none_below axis shift e first c.first_of-from.result n from le));
      few = omega arith;
      begun = omega arith;
      ends = omega arith;
    }

pub loop-number-preserved : goal.loop-number-preserved
loop-number-preserved c =
    let so_far = c.loop-number.invariant in
    let axis = c.args.cut.axis in
    let shift = c.args.cut.shift in
    let e = c.args.edge in
    let first = c.args.cut.first in
    let number = c.loop-number.number in
    let from : c.first_of-from.result ≡ max (lowest axis shift e) first = search rules in
    let most : number < highest axis shift e + 1 = search rules in
    let pushed : lists_of c.push_at.new.strips.items ≡ pushed_at (number - first) e (lists_of c.loop-number.strips.items) = search rules in
    let more : edges_held c.push_at.new.strips.items ≤ edges_held c.loop-number.strips.items + 1 = rw pushed (pushed_held (lists_of c.loop-number.strips.items) (number - first) e) in
    record {
      with = pushed ∙ ap (pushed_at (number - first) e) so_far.with
          ∙ next_pushed (lists_of c.args.strips.now.items) axis shift e first number (omega (arith, from, so_far.begun)) (omega (arith, from, so_far.begun)) (omega (arith, most));
      few = omega (arith, more, so_far.few);
      begun = omega (arith, so_far.begun);
      ends = search (rules, so_far.ends);
    }

pub returns-clause-with : goal.returns-clause-with
returns-clause-with c =
    let so_far = c.loop-number.invariant in
    so_far.with ∙ all_pushed c.args.cut c.args.edge c.loop-number.number (lists_of c.args.strips.now.items) (length-map c.args.strips.now.items (λ s. s.edges.items) ∙ c.requires.number) (search rules)
