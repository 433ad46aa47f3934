use Rattle.std.proofs.Common.{List, ℤ, subst, sym}
use Rattle.osm_ids.proofs.StripLemmas.{NamesBut, named_all, named_none}
use Rattle.osm_ids.proofs.strips.IdStrips.add_sealed.Goals as goal

pub ids-init : goal.ids-init
ids-init c = record {
  named = subst (λ (left : List ℤ). NamesBut c.args.self.now c.args.number c.args.ids.now left) (sym c.new-walk.ensures) (named_none c.args.self.now c.args.number c.args.ids.now);
  still = λ id number there. there;
}

pub returns-clause-named : goal.returns-clause-named
returns-clause-named c = named_all c.ids.self c.args.number c.args.ids.now (subst (λ (left : List ℤ). NamesBut c.ids.self c.args.number c.args.ids.now left) c.in_default.ensures.0 c.ids.invariant.named)
