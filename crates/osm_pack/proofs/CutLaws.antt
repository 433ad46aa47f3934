-- What the cuts of a list are.
use Rattle.std.proofs.Common.{◌≡◌, ℕ, zero, suc, ◌+◌, ◌≤◌, List, [], ◌∷◌, ◌++◌, true, false, cond, length, take, drop, refl, sym, ap, ◌∙◌, subst, arith, append-nil, inl, inr, true≢false}
use Rattle.std.specs.List.{flat_map, AllByRecursion}
use Rattle.std.proofs.lemmas.List.{length-drop, take-append-drop}
use Rattle.std.proofs.Math.Seq.{take-add}
use Rattle.std.proofs.lemmas.Bool.{cases_eq}
use Rattle.osm_entity.specs.Entity.{EntitySpec}
use Rattle.osm_entity.specs.Weight.{entity_weight}
use Rattle.pbf_block.specs.WrittenBlock.{is_block}
use Rattle.pbf_wire.proofs.AllLemmas.{all_drop}
use Rattle.osm_pack.specs.Cuts.{extra, cuts_at_most, cuts, AreLongest, MayStand}
use Rattle.osm_pack.proofs.CutLemmas.{kept_none, kept_one, kept_left, cuts_closed, cuts_last}
use Rattle.osm_entity.specs.declared.weight.TheConstants.{HIGHEST_WEIGHT}

joined : (most : ℕ) (es : List EntitySpec) → length es ≤ most → flat_map (λ block. block) (cuts_at_most most es) ≡ es
joined zero [] h = refl
joined (suc most) [] h = refl
joined zero (e ∷ es) h = absurd (omega arith)
joined (suc most) (e ∷ es) h =
    let k = extra (length es) e es in
    ap (λ ys. e ∷ (take k es ++ ys)) (joined most (drop k es) (omega (arith, length-drop k es))) ∙ ap (λ ys. e ∷ ys) (take-append-drop k es)

pub cuts_joined : (es : List EntitySpec) → flat_map (λ block. block) (cuts es) ≡ es
unfolding cuts
cuts_joined es = joined (length es) es (omega arith)

extra_kept : (most : ℕ) (e : EntitySpec) (es : List EntitySpec) → is_block (e ∷ []) ≡ true → is_block (e ∷ take (extra most e es) es) ≡ true
extra_kept zero e es h = h
extra_kept (suc most) e es h =
    elim (is_block (e ∷ take (suc most) es)) as (λ b. is_block (e ∷ take (suc most) es) ≡ b → is_block (e ∷ take (cond b (suc most) (extra most e es)) es) ≡ true)
    [ true ↦ λ k. k | false ↦ λ _. extra_kept most e es h ] refl

-- no longer prefix may be a block
pub extra_longest : (most : ℕ) (e : EntitySpec) (es : List EntitySpec) (n : ℕ) → n ≤ most → is_block (e ∷ take n es) ≡ true → n ≤ extra most e es
extra_longest zero e es n h k = omega arith
extra_longest (suc most) e es n h k =
    elim (is_block (e ∷ take (suc most) es)) as (λ b. is_block (e ∷ take (suc most) es) ≡ b → n ≤ cond b (suc most) (extra most e es)) [
      | true ↦ λ _. h
      | false ↦ λ stops. elim (cases_eq n (suc most)) [
        | inl same ↦ absurd (true≢false (sym (subst (λ m. is_block (e ∷ take m es) ≡ true) same k) ∙ stops))
        | inr other ↦ extra_longest most e es n (omega arith) k
      ]
    ] refl

each_kept : (most : ℕ) (es : List EntitySpec) → AllByRecursion (λ e. entity_weight e ≤ HIGHEST_WEIGHT) es → AllByRecursion (λ block. is_block block ≡ true) (cuts_at_most most es)
each_kept zero es h = tt
each_kept (suc most) [] h = tt
each_kept (suc most) (e ∷ es) h = (extra_kept (length es) e es (kept_one e h.0), each_kept most (drop (extra (length es) e es) es) (all_drop _ (extra (length es) e es) es h.1))

pub cuts_kept : (es : List EntitySpec) → AllByRecursion (λ e. entity_weight e ≤ HIGHEST_WEIGHT) es → AllByRecursion (λ block. is_block block ≡ true) (cuts es)
unfolding cuts
cuts_kept es h = each_kept (length es) es h

-- ---- each block is as long as may be

-- a block ends where the next entity may not join it
ends_there : (e : EntitySpec) (es : List EntitySpec) (f : EntitySpec) (rest : List EntitySpec) → drop (extra (length es) e es) es ≡ f ∷ rest
    → is_block (e ∷ (take (extra (length es) e es) es ++ f ∷ [])) ≡ false
ends_there e es f rest left =
    let k = extra (length es) e es in
    let one_more : take (k + 1) es ≡ take k es ++ f ∷ [] = take-add k 1 es ∙ ap (λ (ys : List EntitySpec). take k es ++ take 1 ys) left in
    let within : k + 1 ≤ length es = omega (arith, length-drop k es, ap (λ (ys : List EntitySpec). length ys) left) in
    elim (is_block (e ∷ (take k es ++ f ∷ []))) as (λ b. is_block (e ∷ (take k es ++ f ∷ [])) ≡ b → b ≡ false) [
      | true ↦ λ joins. absurd (omega (arith, extra_longest (length es) e es (k + 1) within (subst (λ ys. is_block (e ∷ ys) ≡ true) (sym one_more) joins)))
      | false ↦ λ _. refl
    ] refl

longest_from : (most : ℕ) (es : List EntitySpec) → AreLongest (cuts_at_most most es)
longest_from zero es = tt
longest_from (suc most) [] = tt
longest_from (suc most) (e ∷ es) =
    let k = extra (length es) e es in
    before most (e ∷ take k es) (drop k es) (ends_there e es) (longest_from most (drop k es))
  where
    before : (most : ℕ) (block left : List EntitySpec) → ((f : EntitySpec) (rest : List EntitySpec) → left ≡ f ∷ rest → is_block (block ++ f ∷ []) ≡ false)
        → AreLongest (cuts_at_most most left) → AreLongest (block ∷ cuts_at_most most left)
    before zero block left ends more = tt
    before (suc most) block [] ends more = tt
    before (suc most) block (f ∷ rest) ends more = (ends f rest refl, more)

pub cuts_longest : (es : List EntitySpec) → AreLongest (cuts es)
unfolding cuts
cuts_longest es = longest_from (length es) es

-- entities that may share a block, without the last ones
pub front_kept : (xs ys : List EntitySpec) → is_block (xs ++ ys) ≡ true → is_block xs ≡ true
front_kept [] ys h = kept_none
front_kept (x ∷ xs) ys h = kept_left x xs ys h

no_cuts : cuts [] ≡ []
unfolding cuts
no_cuts = refl

-- no other blocks are so
pub cuts_only : (blocks : List (List EntitySpec)) → AllByRecursion MayStand blocks → AreLongest blocks → cuts (flat_map (λ block. block) blocks) ≡ blocks
cuts_only [] stand ends = no_cuts
cuts_only ([] ∷ more) stand ends = absurd (stand.0.0 refl)
cuts_only ((x ∷ xs) ∷ []) stand ends = ap cuts (append-nil (x ∷ xs)) ∙ cuts_last x xs stand.0.1
cuts_only ((x ∷ xs) ∷ [] ∷ more) stand ends = absurd (stand.1.0.0 refl)
cuts_only ((x ∷ xs) ∷ (y ∷ ys) ∷ more) stand ends =
    cuts_closed x xs y (ys ++ flat_map (λ block. block) more) stand.0.1 ends.0 ∙ ap (λ (blocks : List (List EntitySpec)). (x ∷ xs) ∷ blocks) (cuts_only ((y ∷ ys) ∷ more) stand.1 ends.1)
