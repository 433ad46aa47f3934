use Rattle.std.proofs.Common.{◌≡◌, ◌+◌, ◌*◌, ◌^◌, ◌<◌, ◌-◌, ◌%◌, ℕ, ◌∙◌, ap, subst, arith, inl, inr, get_or, length}
use Rattle.std.specs.Prelude.{IsBitSet}
use Rattle.std.proofs.lemmas.List.{get_or-take, get_or-drop}
use Rattle.pbf_wire.proofs.ShortLemmas.{both_halves}
use Rattle.pbf_wire.proofs.short.ends_in.Goals as goal

pub returns : goal.returns
returns c = λ i lt h.
    let window = c.args.window.now in
    let front = c.end_mask-2.result in
    let back = c.end_mask.result in
    let low : front < 2 ^ 32 = omega (arith, c.end_mask-2.type_inv) in
    let high : back < 2 ^ 32 = omega (arith, c.end_mask.type_inv) in
    let whole : c.from.result * 2 ^ 32 % 2 ^ 64 + c.from-2.result ≡ back * 2 ^ 32 + front = omega (arith, c.from.ensures, c.from-2.ensures) in
    elim (both_halves front back i low (subst (λ (m : ℕ). IsBitSet m i) whole h)) [
      | inl here ↦
          let same = ap (λ block. get_or block i 0) c.in-Some-Some.ensures.cases.same ∙ get_or-take 32 window i 0 here.0 in
          omega (arith, same, (c.end_mask-2.ensures.bits i here.0).0 here.1)
      | inr here ↦
          let j = i - 32 in
          let half = length window - 32 in
          let at : half + j ≡ i = omega (arith, c.told-window) in
          let same = ap (λ block. get_or block j 0) c.in-Some-Some.ensures'.cases.1.same ∙ get_or-drop half window j 0 ∙ ap (λ k. get_or window k 0) at in
          omega (arith, same, (c.end_mask.ensures.bits j (omega arith)).0 here.1)
    ]
