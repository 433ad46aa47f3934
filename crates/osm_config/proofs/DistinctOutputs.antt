-- No two extracts of a configuration have the same output.
use Rattle.std.proofs.Common.{◌≡◌, ◌∙◌, ℕ, Bool, true, false, List, [], ◌∷◌, ◌++◌, map, Some, None, Ok, Err, refl, sym, ap, subst}
use Rattle.std.specs.Prelude.{◌||◌, codes, Option}
use Rattle.std.specs.List.{AllByRecursion, IsDistinct, list_any}
use Rattle.std.specs.Str.{bytes_eq}
use Rattle.std.proofs.lemmas.Cmp.{nat_list_eq_equiv}
use Rattle.std.proofs.lemmas.List.Folds.{list_any-append}
use Rattle.json.specs.Json.{Json, Items, document}
use Rattle.osm_config.specs.declared.names.ConfigObject.TheVariants as kind
use Rattle.osm_config.specs.Configs.{ConfigSpec, ExtractSpec, config_of_json, config_of_text, extracts_after, extracts_in, if_some_and_distinct, repeated_after, unless_repeated}
use Rattle.osm_config.specs.Faults.{FaultSpec, OrFault}
use Rattle.osm_config.specs.Members.{judge_object, list_in, optional_string, required}
use Rattle.osm_polygon.specs.GeoJson.{and_then}
use Rattle.osm_polygon.specs.Texts.{without_mark}

-- ---- names that don't come before are distinct

either_false : (a b : Bool) → (a || (b || false)) ≡ false → (a ≡ false) × (b ≡ false)
either_false false false e = (refl, refl)
either_false false true e = absurd (no e) where
  no : true ≡ false → ⊥
  no e = cc
either_false true b e = absurd (no e) where
  no : true ≡ false → ⊥
  no e = cc

module _ (y name : List ℕ) (before : List (List ℕ)) (e : list_any (bytes_eq y) (before ++ name ∷ []) ≡ false) where
  parts : (list_any (bytes_eq y) before ≡ false) × (bytes_eq y name ≡ false)
  parts = either_false (list_any (bytes_eq y) before) (bytes_eq y name) (sym (list_any-append (bytes_eq y) before (name ∷ [])) ∙ e)

next_of : (before : List (List ℕ)) (o : List ℕ) (os : List (List ℕ)) → repeated_after before (o ∷ os) ≡ None → (list_any (bytes_eq o) before ≡ false) × (repeated_after (before ++ o ∷ []) os ≡ None)
next_of before o os e = by (list_any (bytes_eq o) before) refl where
  no : (n : ℕ) → ◌≡◌ {A = Option ℕ} (Some n) None → ⊥
  no n e = cc

  by : (b : Bool) → list_any (bytes_eq o) before ≡ b → (list_any (bytes_eq o) before ≡ false) × (repeated_after (before ++ o ∷ []) os ≡ None)
  by false is = let h = rw is at e in (is, h)
  by true is = let h = rw is at e in absurd (no _ h)

apart : (os before : List (List ℕ)) (o : List ℕ) → ((y : List ℕ) → list_any (bytes_eq y) before ≡ false → bytes_eq o y ≡ false) → repeated_after before os ≡ None → AllByRecursion (λ y. bytes_eq o y ≡ false) os
apart [] before o h e = tt
apart (y ∷ os) before o h e =
    let n = next_of before y os e in
    (h y n.0, apart os (before ++ y ∷ []) o (λ z f. h z (parts z y before f).0) n.1)

distinct_after : (os before : List (List ℕ)) → repeated_after before os ≡ None → IsDistinct bytes_eq os
unfolding IsDistinct
distinct_after [] before e = tt
distinct_after (o ∷ os) before e =
    let n = next_of before o os e in
    (apart os (before ++ o ∷ []) o (λ y f. nat_list_eq_equiv.symm o y ∙ (parts y o before f).1) n.1, distinct_after os (before ++ o ∷ []) n.1)

-- ---- what a configuration's extracts are

never : {A : Type 0} {f : FaultSpec} {x : A} → ◌≡◌ {A = OrFault A} (Err f) (Ok x) → ⊥
never e = cc

abbrev got : OrFault (List ExtractSpec) → List ExtractSpec
got (Ok es) = es
got (Err f) = []

abbrev extracts_got : OrFault ConfigSpec → OrFault (List ExtractSpec)
extracts_got (Ok c) = Ok c.extracts
extracts_got (Err f) = Err f

config_extracts : (names : OrFault Unit) (folder : OrFault (Option (List ℕ))) (es : OrFault (List ExtractSpec)) (config : ConfigSpec)
    → and_then names (λ _. and_then folder (λ directory. and_then es (λ extracts. Ok (record { directory = directory; extracts = extracts })))) ≡ Ok config → es ≡ Ok config.extracts
config_extracts (Err f) folder es config e = absurd (never e)
config_extracts (Ok u) (Err f) es config e = absurd (never e)
config_extracts (Ok u) (Ok folder) (Err f) config e = absurd (never e)
config_extracts (Ok u) (Ok folder) (Ok es) config e = ap extracts_got e

abbrev Kept : List ExtractSpec → Type 0
Kept found = (es : List ExtractSpec) × (if_some_and_distinct es ≡ Ok found)

kept_extracts : (r : OrFault (List ExtractSpec)) (found : List ExtractSpec) → and_then r if_some_and_distinct ≡ Ok found → Kept found
kept_extracts (Err f) found e = absurd (never e)
kept_extracts (Ok es) found e = (es, e)

kept_items : (r : OrFault Items) (g : Items → OrFault (List ExtractSpec)) (found : List ExtractSpec) → and_then r (λ items. and_then (g items) if_some_and_distinct) ≡ Ok found → Kept found
kept_items (Err f) g found e = absurd (never e)
kept_items (Ok items) g found e = kept_extracts (g items) found e

kept : (r : OrFault Json) (list : Json → OrFault Items) (g : Items → OrFault (List ExtractSpec)) (found : List ExtractSpec)
    → and_then r (λ value. and_then (list value) (λ items. and_then (g items) if_some_and_distinct)) ≡ Ok found → Kept found
kept (Err f) list g found e = absurd (never e)
kept (Ok value) list g found e = kept_items (list value) g found e

distinct_kept : (es found : List ExtractSpec) → if_some_and_distinct es ≡ Ok found → IsDistinct bytes_eq (map (λ e. e.output) found)
distinct_kept [] found e = absurd (never e)
distinct_kept (x ∷ es) found e = by (repeated_after [] (map (λ e. e.output) (x ∷ es))) refl e where
  by : (r : Option ℕ) → repeated_after [] (map (λ e. e.output) (x ∷ es)) ≡ r → unless_repeated (x ∷ es) r ≡ Ok found → IsDistinct bytes_eq (map (λ e. e.output) found)
  by None is e = subst (λ l. IsDistinct bytes_eq (map (λ e. e.output) l)) (ap got e) (distinct_after (map (λ e. e.output) (x ∷ es)) [] is)
  by (Some n) is e = absurd (never e)

pub distinct_outputs : (text : List ℕ) (config : ConfigSpec) → config_of_text text ≡ Ok config → IsDistinct bytes_eq (map (λ e. e.output) config.extracts)
unfolding config_of_text
distinct_outputs text config e = by (document (without_mark text)) e where
  by : (o : Option Json) → config_of_json o ≡ Ok config → IsDistinct bytes_eq (map (λ e. e.output) config.extracts)
  by None e = absurd (never e)
  by (Some value) e =
      let found = config_extracts (judge_object 0 [] kind.Whole value) (optional_string 0 (codes "directory") value) (extracts_in value) config e in
      let k = kept (required 0 (codes "extracts") value) (list_in 0 (codes "extracts")) (extracts_after []) config.extracts found in
      distinct_kept k.0 config.extracts k.1
