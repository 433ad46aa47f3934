-- Outputs that were seen, in a sorted set.
use Rattle.std.proofs.Common.{◌≡◌, ◌∙◌, ℕ, ◌+◌, Bool, true, false, List, [], ◌∷◌, ◌++◌, length, length-append, Some, refl, sym, ap, Bor}
use Rattle.std.specs.Prelude.{not, cond}
use Rattle.std.specs.BTreeMap.{is_at}
use Rattle.std.specs.Cmp.Lexicographic.{slice_cmp}
use Rattle.std.specs.List.{list_any}
use Rattle.std.specs.Ordering.{is_eq, nat_cmp}
use Rattle.std.specs.Str.{bytes_eq}
use Rattle.osm_config.specs.Configs.{repeated_after}
use Rattle.osm_config.proofs.NameLemmas.{with_one}

abbrev pub has_key : List (Bor (List ℕ)) → Bor (List ℕ) → Bool
has_key keys q = list_any (is_at (λ k. slice_cmp nat_cmp q.now k.now)) keys

-- the keys are the names before, as many as were counted, and those that are left give from here what all give
pub record IsSeen (keys : List (Bor (List ℕ))) (count : ℕ) (left all : List (List ℕ)) : Type 0 where
  pub before : List (List ℕ)
  pub counted : length before ≡ count
  pub same : (q : Bor (List ℕ)) → has_key keys q ≡ list_any (bytes_eq q.now) before
  pub gives : repeated_after before left ≡ repeated_after [] all

pub seen_none : (all : List (List ℕ)) → IsSeen [] 0 all all
seen_none all = record { before = []; counted = refl; same = λ q. refl; gives = refl }

pub was_there : (new there : Bool) → new ≡ not there → new ≡ false → there ≡ true
was_there new true e f = refl
was_there new false e f = absurd (no (sym e ∙ f)) where
  no : true ≡ false → ⊥
  no e = cc

pub was_not_there : (new there : Bool) → new ≡ not there → new ≡ true → there ≡ false
was_not_there new false e f = refl
was_not_there new true e f = absurd (no (sym e ∙ f)) where
  no : false ≡ true → ⊥
  no e = cc

module _ (keys : List (Bor (List ℕ))) (count : ℕ) (name : Bor (List ℕ)) (more all : List (List ℕ)) (s : IsSeen keys count (name.now ∷ more) all) where
  -- a name that was seen is the first that comes before
  pub seen_again : has_key keys name ≡ true → Some (count + 1) ≡ repeated_after [] all
  seen_again h =
      let known : list_any (bytes_eq name.now) s.before ≡ true = sym (s.same name) ∙ h in
      let here : repeated_after s.before (name.now ∷ more) ≡ Some (length s.before + 1) = rw known refl in
      ap (λ n. Some (n + 1)) (sym s.counted) ∙ (sym here ∙ s.gives)

  -- and another is one more
  pub seen_more : (new : List (Bor (List ℕ))) → has_key keys name ≡ false → ((q : Bor (List ℕ)) → has_key new q ≡ cond (is_eq (slice_cmp nat_cmp name.now q.now)) true (has_key keys q)) → IsSeen new (count + 1) more all
  seen_more new h with_name =
      let known : list_any (bytes_eq name.now) s.before ≡ false = sym (s.same name) ∙ h in
      let here : repeated_after s.before (name.now ∷ more) ≡ repeated_after (s.before ++ name.now ∷ []) more = rw known refl in
      let longer : length (s.before ++ name.now ∷ []) ≡ length s.before + 1 = length-append s.before (name.now ∷ []) in
      record {
        before = s.before ++ name.now ∷ [];
        counted = longer ∙ ap (λ n. n + 1) s.counted;
        same = λ q. with_name q ∙ (ap (λ b. cond (is_eq (slice_cmp nat_cmp name.now q.now)) true b) (s.same q) ∙ with_one name.now q.now s.before);
        gives = sym here ∙ s.gives;
      }
