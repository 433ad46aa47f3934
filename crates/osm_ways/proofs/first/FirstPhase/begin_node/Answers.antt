use Rattle.std.proofs.Common.{arith}
use Rattle.std.proofs.Common.{◌≡◌, Bool, true, false, ◌&&◌, refl, subst, ap, ◌∙◌, rules}
use Rattle.osm_ways.specs.First.{FirstSets, before_node}
use Rattle.osm_ways.proofs.FirstLemmas.{before_same}
use Rattle.osm_ways.proofs.SortedLemmas.{dropped_before}
use Rattle.osm_ways.proofs.first.FirstPhase.begin_node.Goals as goal

pub returns-then-not-self : goal.returns-then-not-self
returns-then-not-self c =
    let s = c.self.inside in
    let none : s.has_ways ≡ false = search rules in
    subst (λ (s : FirstSets). s ≡ before_node s) c.self.view_is (before_same s.has_ways s.in_order s.box_ids s.refs s.way_ids c.self.invariant.0 (ap (λ b. b && s.in_order) none))

pub returns-then-not-self-2 : goal.returns-then-not-self-2
returns-then-not-self-2 c =
    let s = c.self.inside in
    let broken : s.in_order ≡ false = search rules in
    subst (λ (s : FirstSets). s ≡ before_node s) c.self.view_is (before_same s.has_ways s.in_order s.box_ids s.refs s.way_ids c.self.invariant.0 (ap (λ b. s.has_ways && b) broken ∙ and_false s.has_ways)) where
      and_false : (b : Bool) → (b && false) ≡ false
      and_false true = refl
      and_false false = refl

pub returns : goal.returns
returns c = grind (arith, dropped_before c.args.self.now, c.drop_ways.ensures)
