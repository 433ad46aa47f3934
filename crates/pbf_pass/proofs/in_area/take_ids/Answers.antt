use Rattle.std.proofs.Common.{◌≡◌, ℤ, List, sym, ap, ◌∙◌, rules}
use Rattle.std.specs.List.{fold}
use Rattle.pbf_dense.specs.Within.{ids_within_left}
use Rattle.pbf_pass.specs.Pass.{with_inside}
use Rattle.pbf_pass.proofs.in_area.take_ids.Goals as goal

pub loop-id-preserved : goal.loop-id-preserved
loop-id-preserved g c =
    let so_far = c.loop-id.invariant in
    let rest = ids_within_left c.next.new.self in
    let step : c.take_inside.new.self ≡ with_inside g.P.NodeTaker.step c.loop-id.phase c.in-Some.id = search rules in
    record {
      can = so_far.can;
      ends = so_far.ends;
      taken =
          ap (λ p. fold (with_inside g.P.NodeTaker.step) p rest) step
          ∙ ap (λ (ids : List ℤ). fold (with_inside g.P.NodeTaker.step) c.loop-id.phase ids) (sym c.in-Some.ensures.steps)
          ∙ so_far.taken;
    }
