use Rattle.std.proofs.Common.{◌≡◌, ◌+◌, ◌-◌, ◌<ℤ◌, List, ℤ, pos, false, get_or, length, refl, ap, sym, subst, ◌∙◌, arith, rules, w64}
use Rattle.std.specs.FinSet as set
use mir.Val.{SFits}
use Rattle.std.proofs.lemmas.Int.{ints, to_z-of_z}
use Rattle.osm_ids.specs.declared.index.PageStart.{PageStart}
use Rattle.osm_ids.specs.declared.page.Known.{Known}
use Rattle.osm_ids.specs.Index.{ArePagesUpTo, HasPage, first_of}
use Rattle.osm_ids.specs.Order.{IsAbove}
use Rattle.osm_ids.specs.Pages.{rising}
use Rattle.osm_ids.proofs.Sets.{Ids}
use Rattle.osm_ids.proofs.Kept.{absent_first, is_page_of}
use Rattle.osm_ids.proofs.OrderLemmas.{above_apart}
use Rattle.osm_ids.proofs.Rounds.{told_known}
use Rattle.osm_ids.proofs.Sealing.{sealed_now, above_last, begun, start_is}
use Rattle.osm_ids.proofs.pages.SealedIds.look.Goals as goal

pub returns-then-self-id-clause-some : goal.returns-then-self-id-clause-some
returns-then-self-id-clause-some c =
    let id = c.args.id in
    let ids = c.args.self.now in
    let last = c.self.inside.last in
    let fits : SFits w64 last = search rules in
    let none : (x : ℤ) → last <ℤ x → set.contains ids x ≡ false = λ x up.
    above_apart ids x (subst (λ (s : Ids). IsAbove s x) c.self.view_is (above_last _ _ _ c.self.invariant.1 last x c.self.invariant.3 (λ _. up))) in (
      record {
        known = told_known ids _ _ _ _ _ _ c.told.ensures (to_z-of_z w64 _ fits) refl (λ x up _. none x up);
        there = none id (let low = c.if-self-id.true in omega (arith, ints, low, to_z-of_z w64 id c.ranges.id, to_z-of_z w64 last fits)) ∙ sym (ap (λ (k : Known). k.there) c.told.ensures);
      },
      refl,
    )

pub returns-then-begun-eq0-clause-some : goal.returns-then-begun-eq0-clause-some
returns-then-begun-eq0-clause-some c =
    let ids = c.args.self.now in
    let s = sealed_now _ _ _ c.self.invariant.1 _ c.self.view_is in
    let least : SFits w64 c.first_id.result = search rules in
    let d : PageStart = record { first = pos 0; place = 0 } in
    let value = c.deref.ensures.value in
    let first : HasPage (rising ids) 0 → c.first_id.result ≡ first_of (rising ids) 0 = λ lt.
    c.first_id.ensures d (omega (arith, begun _ _ _ s 0 lt, ap length value)) ∙ ap (λ (i : List PageStart). (get_or i 0 d).first) value ∙ ap (λ (a : PageStart). a.first) (start_is _ _ _ s 0 lt d) in
    let passed = subst (λ z. ArePagesUpTo (rising ids) z c.begun-begun.result) (to_z-of_z w64 c.args.id c.ranges.id) c.begun-begun.ensures in (
      record {
        known = told_known ids _ _ _ _ _ _ c.told-then-begun-eq0.ensures refl (to_z-of_z w64 _ least) (λ x _ below. absent_first ids x (λ lt. subst (λ z. x <ℤ z) (first lt) below));
        there = absent_first ids c.args.id (subst (ArePagesUpTo (rising ids) c.args.id) c.if-begun-eq0.true passed).high ∙ sym (ap (λ (k : Known). k.there) c.told-then-begun-eq0.ensures);
      },
      refl,
    )

pub returns-clause-none : goal.returns-clause-none
returns-clause-none c =
    let ids = c.args.self.now in
    let n = c.begun-begun.result in
    let same : n ≡ (n - 1) + 1 = omega (arith, c.if-begun-eq0.false) in
    let passed = subst (λ z. ArePagesUpTo (rising ids) z n) (to_z-of_z w64 c.args.id c.ranges.id) c.begun-begun.ensures in
    is_page_of ids (n - 1) (passed.there (omega (arith, c.if-begun-eq0.false))) c.read.new.ids c.read.ensures c.args.id (subst (ArePagesUpTo (rising ids) c.args.id) same passed)
