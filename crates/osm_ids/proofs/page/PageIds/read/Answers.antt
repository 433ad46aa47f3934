use Rattle.std.proofs.Common.{◌≡◌, ◌-◌, ◌∷◌, [], ℤ, length, take, pos, get_or, sym, ap, subst, ◌∙◌, arith, rules, to_z, of_z, w64}
use mir.Val.{SFits}
use Rattle.std.proofs.lemmas.Int.{to_z-of_z}
use Rattle.std.proofs.lemmas.List.{take_more_set}
use Rattle.pbf_wire.specs.Cursors.{numbers_left}
use Rattle.pbf_wire.specs.Packed.{numbers_of}
use Rattle.osm_ids.specs.Pages.{AllFit, ReadsPage, raised}
use Rattle.osm_ids.specs.Windows.{held}
use Rattle.osm_ids.proofs.Places.{last_at}
use Rattle.std.proofs.Math.Seq.{take-nil}
use Rattle.osm_ids.proofs.Reading.{wrapped_sum, reads_start, front_left, reads_next, reads_none}
use Rattle.osm_ids.proofs.page.PageIds.read.Goals as goal
use Rattle.osm_ids.proofs.page.PageIds.read.Goals.{else-ids-test, then-ids-test+in_default}

pub ids-init : goal.ids-init
ids-init c = grind (arith, front_left 127 (128 - c.rise.new.self.count) c.pass_singles.result.now (numbers_left c.pass_singles.new.self) (omega (arith, c.rise.ensures.count, c.pass_singles.ensures.few)), reads_start, take_more_set c.args.self.now.ids 0)

pub ids-preserved : goal.ids-preserved
ids-preserved c =
    let page = c.ids.self in
    let first = to_z w64 (of_z w64 c.args.first) in
    let all = first ∷ raised first (take 127 (numbers_of c.args.bytes.now)) in
    let long : length page.ids ≡ 128 = search rules in
    let last : ℤ = get_or page.ids (page.count - 1) (pos 0) in
    let last_fits : SFits w64 last = search rules in
    let low_is = to_z-of_z w64 last last_fits in
    let gap = c.in-Some.gap in
    let singles = c.pass_singles-in-ids.ensures in
    let last_is = low_is ∙ sym (last_at page.ids page.count c.ids.invariant.some (omega (arith, long, c.ids.invariant.few))) in
    let one = ap (take (128 - page.count)) c.in-Some.ensures.steps ∙ front_left (128 - page.count) (127 - page.count) (gap ∷ []) (numbers_left c.next.new.self) (omega (arith, c.ids-test.true)) in
    let left = ap (take (127 - page.count)) singles.passed ∙ front_left (127 - page.count) (128 - c.rise-in-ids.new.self.count) c.pass_singles-in-ids.result.now (numbers_left c.pass_singles-in-ids.new.self) (omega (arith, c.rise-in-ids.ensures.count, singles.few)) in
    record {
      some = omega (arith, c.rise-in-ids.ensures.count);
      few = omega (arith, c.rise-in-ids.ensures.count, singles.few, c.ids-test.true);
      reading = λ fits.
          c.rise-in-ids.ensures.ids _ _
          (subst (ReadsPage all _) left
          (reads_next _ (held page) _ gap (take (127 - page.count) (numbers_left c.next.new.self)) _ (subst (ReadsPage all (held page)) one (c.ids.invariant.reading fits)) (take_more_set page.ids page.count _ (omega (arith, long, c.ids-test.true)))
          (wrapped_sum _ _ gap c.wrapping_add_unsigned.result last_is (subst (SFits w64) (sym low_is) last_fits) c.wrapping_add_unsigned.ensures)));
    }

pub returns-clause-ids : goal.returns-clause-ids
returns-clause-ids c = λ fits.
    let page = c.ids.self in
    let same = to_z-of_z w64 c.args.first c.ranges.first in
    let numbers = take 127 (numbers_of c.args.bytes.now) in
    let left = numbers_left c.ids.gaps in
    let none : take (128 - page.count) left ≡ [] = elim c.ids-test.branch [
      | else-ids-test w ↦ let full : 128 - page.count ≡ 0 = omega (arith, w.ids-test.false) in ap (λ n. take n left) full
      | then-ids-test+in_default w ↦ ap (take (128 - page.count)) w.in_default.ensures.steps.0 ∙ take-nil (128 - page.count)
    ] in
    subst (λ z. held page ≡ z ∷ raised z numbers) same (reads_none _ (held page) _ (c.ids.invariant.reading (subst (λ z. AllFit (raised z numbers)) (sym same) fits)) none)

pub returns-clause-below : goal.returns-clause-below
returns-clause-below c = grind (arith, to_z-of_z, last_at)
