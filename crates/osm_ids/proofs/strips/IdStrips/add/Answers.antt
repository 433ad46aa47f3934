use Rattle.std.proofs.Common.{◌≡◌, List, ℤ, rules, subst, sym}
use Rattle.osm_ids.proofs.Sets.{Ids}
use Rattle.osm_ids.proofs.StripLemmas.{NamesBut, named_late}
use Rattle.osm_ids.proofs.strips.IdStrips.add.Goals as goal

pub loop-id-init : goal.loop-id-init
loop-id-init c =
    let strips = c.add_sealed.new.self in
    let left : c.into_iter-id-iterator.result ≡ c.ids.inside.late.keys = search rules in
    let parts = named_late strips c.args.number c.ids.inside.pages c.ids.inside.late.keys c.in_ok-add_sealed.ensures.named in
    record {
      named = subst (λ (late : List ℤ). NamesBut strips c.args.number c.args.ids.now late) (sym left)
          (subst (λ (s : Ids). NamesBut strips c.args.number s c.ids.inside.late.keys) c.ids.view_is parts);
      still = c.in_ok-add_sealed.ensures.still;
    }
