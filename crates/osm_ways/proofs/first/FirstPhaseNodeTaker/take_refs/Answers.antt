use Rattle.std.proofs.Common.{◌≡◌, true, ◌&&◌, sym, ap, subst, ◌∙◌, rules}
use Rattle.osm_ids.specs.Windows.{IsOf}
use Rattle.osm_ways.specs.declared.first.FirstPhase.TheInside.{Inside}
use Rattle.osm_ways.proofs.first.FirstPhaseNodeTaker.take_refs.Goals as goal
use Rattle.osm_ways.proofs.first.FirstPhaseNodeTaker.take_refs.Goals.{then-not-self+in_ok-settle, else-not-self}

pub add_refs_of-requires : goal.add_refs_of-requires
add_refs_of-requires c =
    elim c.if-not-self.branch [
      | then-not-self+in_ok-settle w ↦ subst (λ (v : Inside). IsOf v.box_ids v.window) (sym w.self-inside-is) (w.new-self-inside.ensures w.settle.new.self)
      | else-not-self w ↦
          let some : c.self.inside.has_ways ≡ true = search rules in
          let now : c.if-not-self.self-inside.in_order ≡ true = search rules in
          let going : c.self.inside.in_order ≡ true = ap (λ (v : Inside). v.in_order) (sym w.self-inside-is) ∙ now in
          subst (λ (v : Inside). IsOf v.box_ids v.window) (sym w.self-inside-is) (c.self.invariant.1 (ap (λ b. b && c.self.inside.in_order) some ∙ going))
    ]
