use Rattle.std.proofs.Common.{◌≡◌, ◌∷◌, ◌<ℤ◌, [], ℤ, Option, IfNone, Some, sym, ap, subst, ◌∙◌, arith, rules, to_z, of_z, w64}
use mir.Val.{SFits}
use Rattle.std.specs.List.{cons_option}
use Rattle.std.proofs.lemmas.Int.{to_z-of_z, ints}
use Rattle.osm_ids.specs.Pages.{Rises}
use Rattle.osm_ids.proofs.Rising.{rising_from_sorted}
use Rattle.osm_ids.proofs.OrderLemmas.{with_late}
use Rattle.osm_ids.proofs.MergeLemmas.{Merging, merging_start, merging_id, merging_late, merging_end, taken, taken_none, up_some, up_none}
use Rattle.osm_ids.proofs.set.merged.Goals as goal
use Rattle.osm_ids.proofs.set.merged.Goals.{in-Some-next+then-id-other, in_default-next}

pub ids-init : goal.ids-init
ids-init c = grind (arith, taken, merging_start c.args.ids.now c.args.late.now.keys c.requires (rising_from_sorted c.args.late.now.keys c.iter-late.ensures.ordered), rising_from_sorted c.args.late.now.keys c.iter-late.ensures.ordered, taken_none)

pub late-smaller : goal.late-smaller
late-smaller c = grind (arith, taken)

pub late-preserved : goal.late-preserved
late-preserved c =
    let l = c.late in
    let id = to_z w64 (of_z w64 c.in-Some.id) in
    let other = to_z w64 (of_z w64 c.in-Some-next.other) in
    let left = id ∷ c.next-in-ids.new.self in
    let all = with_late c.args.ids.now c.args.late.now.keys in
    let fits : SFits w64 c.in-Some-next.other = search rules in
    let next = c.in-Some-next.is ∙ ap Some (sym (to_z-of_z w64 c.in-Some-next.other fits)) in
    let m : Merging all l.all (other ∷ l.late) left = subst (λ (o : Option ℤ). Merging all l.all (cons_option o l.late) left) next l.invariant.merging in
    let rest = taken _ _ _ _ c.next-in-Some-next.ensures.steps c.copied-next-in-Some-next.ensures in
    record {
      merging = grind (arith, merging_late all l.all l.late c.next-in-ids.new.self other id m (let h = c.if-id-other.false in grind (arith, ints)), c.if-id-other.false);
      rest = taken_none _ _ _ _ c.next-in-Some-next.ensures.steps c.copied-next-in-Some-next.ensures;
    }

pub ids-preserved : goal.ids-preserved
ids-preserved c =
    let l = c.late in
    let id = to_z w64 (of_z w64 c.in-Some.id) in
    let all = with_late c.args.ids.now c.args.late.now.keys in
    let m = l.invariant.merging in
    let kept : c.match-next-2.next ≡ l.next = elim c.match-next-2.branch [
      | in-Some-next+then-id-other w ↦ w.next-is ∙ sym w.in-Some-next.is
      | in_default-next w ↦ w.next-is
    ] in
    let up : Rises id (cons_option l.next l.late) = elim c.match-next-2.branch [
      | in-Some-next+then-id-other w ↦
          let other = w.in-Some-next.other in
          let fits : SFits w64 other = search rules in
          let lower : id <ℤ other = let h = w.if-id-other.true in grind (arith, ints, to_z-of_z w64 other fits) in
          up_some l.next l.late other id w.in-Some-next.is lower m.rises.0
      | in_default-next w ↦ up_none l.next l.late id w.in_default-next.is l.invariant.rest
    ] in
    record {
      merging = grind (arith, merging_id all l.all (cons_option l.next l.late) c.next-in-ids.new.self id m up);
      rest = subst (λ (o : Option ℤ). IfNone o (l.late ≡ [])) (sym kept) l.invariant.rest;
    }

pub returns : goal.returns
returns c = merging_end _ c.ids.all _ c.ids.walk c.ids.invariant.merging c.in_default.ensures.0
