use Rattle.std.proofs.Common.{◌≡◌, ◌<◌, ◌+◌, ◌∷◌, ◌++◌, ℕ, List, length, take, drop, pos, sym, ap, subst, ◌∙◌, arith, rules, to_z, w64}
use mir.Val.{SFits}
use Rattle.std.proofs.lemmas.Int.{to_z-of_z}
use Rattle.std.proofs.lemmas.List.{drop_all, drop_more, length-set, take_more_set}
use Rattle.pbf_wire.specs.Packed.{last_from}
use Rattle.osm_ids.specs.Pages.{ReadsPage}
use Rattle.osm_ids.proofs.Places.{last_at, last_push}
use Rattle.osm_ids.proofs.Reading.{reads_next, wrapped_sum}
use Rattle.osm_ids.proofs.page.PageIds.rise.Goals as goal

pub loop-gap-init : goal.loop-gap-init
loop-gap-init c = grind (arith, to_z-of_z, last_at)

pub loop-gap-preserved : goal.loop-gap-preserved
loop-gap-preserved c =
    let l = c.loop-gap in
    let gaps = c.args.gaps.now in
    let last = to_z w64 l.last-bits in
    let gap = c.from.result in
    let last_fits : SFits w64 last = search rules in
    let lt : l.gap-index < length gaps = c.loop-gap-test.true in
    let room : l.count < length l.self.ids = omega (arith, l.invariant.sum, l.invariant.long, lt, c.requires.within) in
    let next : drop l.gap-index gaps ≡ gap ∷ drop (l.gap-index + 1) gaps = drop_more gaps l.gap-index 0 lt ∙ ap (λ n. n ∷ drop (l.gap-index + 1) gaps) (sym c.from.ensures) in
    let one = take_more_set l.self.ids l.count _ room in
    record {
      some = omega arith;
      sum = omega (arith, l.invariant.sum);
      long = length-set l.self.ids l.count _ ∙ l.invariant.long;
      last_is = sym (ap (last_from (pos 0)) one ∙ last_push (pos 0) (take l.count l.self.ids) _);
      reading = λ all more r.
          reads_next all (take l.count l.self.ids) _ gap (drop (l.gap-index + 1) gaps ++ more) _
          (subst (λ (ns : List ℕ). ReadsPage all (take l.count l.self.ids) (ns ++ more)) next (l.invariant.reading all more r)) one
          (wrapped_sum last _ gap c.wrapping_add_unsigned-last.result l.invariant.last_is last_fits c.wrapping_add_unsigned-last.ensures);
    }

pub returns-clause-ids : goal.returns-clause-ids
returns-clause-ids c = grind (arith, drop_all c.loop-gap.gap-index c.args.gaps.now (omega (arith, c.loop-gap-test.false)))
