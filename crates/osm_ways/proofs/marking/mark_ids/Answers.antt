use Rattle.std.proofs.Common.{◌≡◌, ◌∷◌, ◌||◌, [], ℕ, ℤ, List, true, ap, drop, refl, subst, sym, ◌∙◌, rules, w64}
use mir.Val.{SFits}
use Rattle.std.proofs.lemmas.Int.{to_z-of_z}
use Rattle.osm_entity.specs.Sources.{refs_left}
use Rattle.osm_ids.specs.Strips.{IsNamed, MarksNamed, NamesAny, named_at, names_any}
use Rattle.osm_ids.proofs.StripLemmas.{marks_fewer}
use Rattle.pbf_wire.specs.Spans.{is_in}
use Rattle.osm_ways.proofs.MarkingLemmas.{IsPassed, id_passed, is_named, passed_more, passed_none}
use Rattle.osm_ways.proofs.marking.mark_ids.Goals as goal

pub ids-init : goal.ids-init
ids-init c = passed_none (is_named c.args.strips.now) (refs_left c.args.ids) c.args.marks.now

pub ids-preserved : goal.ids-preserved
ids-preserved c =
    let l = c.ids in
    let strips = c.args.strips.now in
    let all = refs_left c.args.ids in
    let id = c.in-Some.id in
    let next = refs_left c.next.new.self in
    let k = c.pass_inside.result in
    let span = c.alike.result in
    let new = c.mark-some.new.marks in
    let fits : SFits w64 id = search rules in
    let same = to_z-of_z w64 id fits in
    let turn : refs_left l.rest ≡ id ∷ next = c.in-Some.ensures.steps in
    let alike : (other : ℤ) → is_in span other ≡ true → named_at strips other ≡ named_at strips id = subst (λ (z : ℤ). (other : ℤ) → is_in span other ≡ true → named_at strips other ≡ named_at strips z) same c.alike.ensures in
    let marked : MarksNamed (IsNamed strips id) l.marks new c.mark-some.result = subst (λ (z : ℤ). MarksNamed (IsNamed strips z) l.marks new c.mark-some.result) same c.mark-some.ensures in
    subst (λ (left : List ℤ). MarksNamed (IsPassed (is_named strips) all left) c.args.marks.now new (l.some || c.mark-some.result)) (sym c.pass_inside.ensures.passed)
    (passed_more (is_named strips) all (refs_left l.rest) (drop k next) id c.args.marks.now l.marks new l.some c.mark-some.result
    (λ number none left. id_passed strips id number span none alike (refs_left l.rest) next k turn c.pass_inside.ensures.inside left) l.invariant marked)

pub returns : goal.returns
returns c =
    let l = c.ids in
    let strips = c.args.strips.now in
    let all = refs_left c.args.ids in
    marks_fewer (NamesAny strips all) (IsPassed (is_named strips) all []) c.args.marks.now l.marks l.some (λ number named. (named, refl))
    (subst (λ (left : List ℤ). MarksNamed (IsPassed (is_named strips) all left) c.args.marks.now l.marks l.some) c.in_default.ensures.steps.0 l.invariant)
