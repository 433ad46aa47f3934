-- How entities that come one by one are cut.
use Rattle.std.proofs.Common.{◌≡◌, ℕ, zero, suc, ◌+◌, ◌<◌, ◌≤◌, List, [], ◌∷◌, ◌++◌, Bool, true, false, ◌&&◌, length, take, drop, refl, sym, ap, ◌∙◌, subst, arith, append_assoc, append-nil, length-append, inl, inr, true≢false}
use Rattle.std.specs.Prelude.{nat_le, if◌then◌else◌}
use Rattle.std.specs.List.{sum_by, list_all, flat_map}
use Rattle.std.proofs.lemmas.Bool.{and_parts, cases_eq}
use Rattle.std.proofs.Math.Bool.{and-true}
use Rattle.std.proofs.lemmas.List.{take_at, drop_at, take_all, drop_all, length-drop, take-append-drop, take-take, length_push}
use Rattle.std.proofs.lemmas.List.Sums.{sum_by-append, sum_by_push, sum_by-cons}
use Rattle.std.proofs.lemmas.List.Folds.{list_all-append}
use Rattle.osm_entity.specs.Entity.{EntitySpec}
use Rattle.osm_entity.specs.Weight.{entity_weight}
use Rattle.pbf_block.specs.WrittenBlock.{are_alike, is_block}
use Rattle.pbf_block.proofs.LengthLaw.{block_parts, block_from}
use Rattle.osm_pack.specs.Cuts.{extra, cuts_at_most, cuts, block_frame, written_entities, then_pending, then_written, at_end}
use Rattle.osm_entity.specs.declared.weight.TheConstants.{HIGHEST_WEIGHT}
use Rattle.pbf_block.specs.declared.block_write.TheConstants.{MOST_ENTITIES}

-- a prefix of what may be a block may be one
pub kept_left : (e : EntitySpec) (xs ys : List EntitySpec) → is_block (e ∷ (xs ++ ys)) ≡ true → is_block (e ∷ xs) ≡ true
kept_left e xs ys h =
    let k = block_parts (e ∷ (xs ++ ys)) h in
    block_from (e ∷ xs) (record {
      alike = (and_parts _ _ (sym (list_all-append (are_alike e) xs ys) ∙ k.alike)).0;
      few = omega (arith, k.few, length-append xs ys);
      light = omega (arith, k.light, sum_by-append entity_weight (e ∷ xs) ys);
    })

pub kept_front : (e : EntitySpec) (es : List EntitySpec) (m n : ℕ) → m ≤ n → is_block (e ∷ take n es) ≡ true → is_block (e ∷ take m es) ≡ true
kept_front e es m n h k =
    let split : take m (take n es) ++ drop m (take n es) ≡ take n es = take-append-drop m (take n es) in
    subst (λ xs. is_block (e ∷ xs) ≡ true) (take-take m n es h) (kept_left e (take m (take n es)) (drop m (take n es)) (subst (λ xs. is_block (e ∷ xs) ≡ true) (sym split) k))

-- the longest prefix
pub extra_is : (most k : ℕ) (e : EntitySpec) (es : List EntitySpec) → k ≤ most → is_block (e ∷ take k es) ≡ true → ((n : ℕ) → k < n → n ≤ most → is_block (e ∷ take n es) ≡ false) → extra most e es ≡ k
extra_is zero k e es h keep ends = omega arith
extra_is (suc most) k e es h keep ends =
    elim (cases_eq k (suc most)) [
      | inl same ↦ rw (subst (λ n. is_block (e ∷ take n es) ≡ true) same keep) (sym same)
      | inr other ↦ rw (ends (suc most) (omega arith) (omega arith)) (extra_is most k e es (omega arith) keep (λ n l m. ends n l (omega arith)))
    ]

cuts_none : (n : ℕ) → cuts_at_most n [] ≡ []
cuts_none zero = refl
cuts_none (suc n) = refl

fuel : (n m : ℕ) (es : List EntitySpec) → length es ≤ n → length es ≤ m → cuts_at_most n es ≡ cuts_at_most m es
fuel (suc n) (suc m) (e ∷ es) p q =
    let k = extra (length es) e es in
    let short : length (drop k es) ≤ length es = omega (arith, length-drop k es) in
    ap (λ bs. (e ∷ take k es) ∷ bs) (fuel n m (drop k es) (omega arith) (omega arith))
fuel n m (e ∷ es) p q = absurd (omega arith)
fuel n m [] p q = cuts_none n ∙ sym (cuts_none m)

-- a block is closed where the next entity may not join it
pub cuts_closed : (x : EntitySpec) (xs : List EntitySpec) (e : EntitySpec) (rest : List EntitySpec) → is_block (x ∷ xs) ≡ true → is_block (x ∷ (xs ++ e ∷ [])) ≡ false
    → cuts ((x ∷ xs) ++ e ∷ rest) ≡ (x ∷ xs) ∷ cuts (e ∷ rest)
unfolding cuts
cuts_closed x xs e rest keep ends =
    let all = xs ++ e ∷ rest in
    let longer : length all ≡ length xs + (length rest + 1) = omega (arith, length-append xs (e ∷ rest)) in
    let front : take (length xs) all ≡ xs = take_at xs (e ∷ rest) (length xs) refl in
    let one_more : take (length xs + 1) all ≡ xs ++ e ∷ [] =
    ap (take (length xs + 1)) (sym (append_assoc xs (e ∷ []) rest)) ∙ take_at (xs ++ e ∷ []) rest (length xs + 1) (length_push xs e) in
    let stops : (n : ℕ) → length xs < n → n ≤ length all → is_block (x ∷ take n all) ≡ false = (λ n l m.
    elim (is_block (x ∷ take n all)) as (λ b. is_block (x ∷ take n all) ≡ b → b ≡ false)
    [ true ↦ λ k. sym (subst (λ ys. is_block (x ∷ ys) ≡ true) one_more (kept_front x all (length xs + 1) n (omega arith) k)) ∙ ends | false ↦ λ k. refl ] refl) in
    let k : extra (length all) x all ≡ length xs = extra_is (length all) (length xs) x all (omega arith) (subst (λ ys. is_block (x ∷ ys) ≡ true) (sym front) keep) stops in
    ap (λ n. (x ∷ take n all) ∷ cuts_at_most (length all) (drop n all)) k
    ∙ (ap (λ ys. (x ∷ ys) ∷ cuts_at_most (length all) (drop (length xs) all)) front
    ∙ ap (λ bs. (x ∷ xs) ∷ bs) (ap (cuts_at_most (length all)) (drop_at xs (e ∷ rest) (length xs) refl) ∙ fuel (length all) (length (e ∷ rest)) (e ∷ rest) (omega arith) (omega arith)))

pub cuts_last : (x : EntitySpec) (xs : List EntitySpec) → is_block (x ∷ xs) ≡ true → cuts (x ∷ xs) ≡ (x ∷ xs) ∷ []
unfolding cuts
cuts_last x xs keep =
    let front : take (length xs) xs ≡ xs = take_all (length xs) xs (omega arith) in
    let k : extra (length xs) x xs ≡ length xs = extra_is (length xs) (length xs) x xs (omega arith) (subst (λ ys. is_block (x ∷ ys) ≡ true) (sym front) keep) (λ n l m. absurd (omega arith)) in
    ap (λ n. (x ∷ take n xs) ∷ cuts_at_most (length xs) (drop n xs)) k
    ∙ (ap (λ ys. (x ∷ ys) ∷ cuts_at_most (length xs) (drop (length xs) xs)) front
    ∙ ap (λ bs. (x ∷ xs) ∷ bs) (ap (cuts_at_most (length xs)) (drop_all (length xs) xs (omega arith)) ∙ cuts_none (length xs)))

pub bytes_closed : (x : EntitySpec) (xs : List EntitySpec) (e : EntitySpec) (rest : List EntitySpec) → is_block (x ∷ xs) ≡ true → is_block (x ∷ (xs ++ e ∷ [])) ≡ false
    → written_entities ((x ∷ xs) ++ e ∷ rest) ≡ block_frame (x ∷ xs) ++ written_entities (e ∷ rest)
bytes_closed x xs e rest keep ends = ap (flat_map block_frame) (cuts_closed x xs e rest keep ends)

pub bytes_last : (x : EntitySpec) (xs : List EntitySpec) → is_block (x ∷ xs) ≡ true → written_entities (x ∷ xs) ≡ block_frame (x ∷ xs)
bytes_last x xs keep = ap (flat_map block_frame) (cuts_last x xs keep) ∙ append-nil _

-- whether entities are like those that are there
abbrev pub like_first : List EntitySpec → EntitySpec → Bool
like_first [] f = true
like_first (e ∷ es) f = are_alike e f

joins_more : (e : EntitySpec) (es : List EntitySpec) (f : EntitySpec) → is_block (e ∷ es) ≡ true
    → (are_alike e f && (nat_le (length (e ∷ es) + 1) MOST_ENTITIES && nat_le (sum_by entity_weight (e ∷ es) + entity_weight f) HIGHEST_WEIGHT)) ≡ is_block (e ∷ (es ++ f ∷ []))
unfolding is_block
joins_more e es f h =
    let kinds : list_all (are_alike e) (es ++ f ∷ []) ≡ are_alike e f =
    list_all-append (are_alike e) es (f ∷ []) ∙ (ap (λ b. b && (are_alike e f && true)) (block_parts (e ∷ es) h).alike ∙ and-true _) in
    let count : suc (length (es ++ f ∷ [])) ≡ suc (length es) + 1 = omega (arith, length_push es f) in
    let weight : sum_by entity_weight (e ∷ (es ++ f ∷ [])) ≡ sum_by entity_weight (e ∷ es) + entity_weight f = sum_by_push entity_weight (e ∷ es) f in
    rw (kinds, count, weight) refl

-- whether one more may join
pub joins : (es : List EntitySpec) (f : EntitySpec) → is_block es ≡ true
    → (like_first es f && (nat_le (length es + 1) MOST_ENTITIES && nat_le (sum_by entity_weight es + entity_weight f) HIGHEST_WEIGHT)) ≡ is_block (es ++ f ∷ [])
unfolding is_block
joins [] f h = refl
joins (e ∷ es) f h = joins_more e es f h

pub kept_bounds : (es : List EntitySpec) → is_block es ≡ true → (length es ≤ MOST_ENTITIES) × (sum_by entity_weight es ≤ HIGHEST_WEIGHT)
kept_bounds es h = let b = block_parts es h in (b.few, b.light)

pub kept_none : is_block [] ≡ true
unfolding is_block
kept_none = refl

pub kept_one : (e : EntitySpec) → entity_weight e ≤ HIGHEST_WEIGHT → is_block (e ∷ []) ≡ true
kept_one e h = block_from (e ∷ []) (record { alike = refl; few = omega arith; light = omega (arith, h, sum_by-cons entity_weight e []) })

pub bytes_none : written_entities [] ≡ []
unfolding cuts
bytes_none = refl

closed : (es : List EntitySpec) (e : EntitySpec) (rest : List EntitySpec) → is_block es ≡ true → is_block (e ∷ []) ≡ true → is_block (es ++ e ∷ []) ≡ false → written_entities (es ++ e ∷ rest) ≡ block_frame es ++ written_entities (e ∷ rest)
closed [] e rest h k stops = absurd (true≢false (sym k ∙ stops))
closed (x ∷ xs) e rest h k stops = bytes_closed x xs e rest h stops

-- what is written in the end stays the same by an entity more
pub push_keeps : (es : List EntitySpec) (e : EntitySpec) (rest : List EntitySpec) → is_block es ≡ true → is_block (e ∷ []) ≡ true
    → then_written es e ++ written_entities (then_pending es e ++ rest) ≡ written_entities (es ++ e ∷ rest)
push_keeps es e rest h k =
    elim (is_block (es ++ e ∷ [])) as (λ b. is_block (es ++ e ∷ []) ≡ b → (if b then [] else block_frame es) ++ written_entities ((if b then es ++ e ∷ [] else e ∷ []) ++ rest) ≡ written_entities (es ++ e ∷ rest))
    [ true ↦ λ _. ap written_entities (append_assoc es (e ∷ []) rest) | false ↦ λ stops. sym (closed es e rest h k stops) ] refl

-- the last block
pub end_keeps : (es : List EntitySpec) → is_block es ≡ true → at_end es ≡ written_entities es
end_keeps [] h = sym bytes_none
end_keeps (e ∷ es) h = sym (bytes_last e es h)

-- what is pending may share one block
pub pending_kept : (es : List EntitySpec) (e : EntitySpec) → is_block (e ∷ []) ≡ true → is_block (then_pending es e) ≡ true
pending_kept es e k =
    elim (is_block (es ++ e ∷ [])) as (λ b. is_block (es ++ e ∷ []) ≡ b → is_block (if b then es ++ e ∷ [] else e ∷ []) ≡ true) [ true ↦ λ joins. joins | false ↦ λ _. k ] refl
