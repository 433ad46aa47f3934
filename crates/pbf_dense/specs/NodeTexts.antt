-- The texts of nodes that are taken over from one message to another.
use Rattle.std.specs.Prelude.{◌≡◌, ◌<◌, ℕ, zero, suc, ℤ, pos, Bool, ◌||◌, true, List, [], ◌∷◌, ◌++◌, map, drop, slice_get, Option}
use Rattle.std.specs.List.{flat_map, filter_map, list_any}
use Rattle.std.specs.Option.{option_map, option_to_list}
use Rattle.osm_entity.specs.Entity.{TagSpec}
use Rattle.osm_entity.specs.EntityTexts.{tag_texts}
use Rattle.osm_entity.specs.Sources.{tag_of, run}
use Rattle.pbf_strings.specs.TableOut.{texts_after, has_text, index_in}
use Rattle.pbf_dense.specs.Info.{user_text}
use Rattle.pbf_dense.specs.Runs.{after_run}
use Rattle.pbf_dense.specs.WrittenDense.{are_some, run_of}

-- the tags of a node, and its user
pub record NodeTexts : Type 0 where
  pub tags : List TagSpec
  pub user : Option (List ℕ)

-- the text of the next node's user, by what is left of their column
abbrev pub next_user_text : List (List ℕ) → List ℤ → Option (List ℕ)
next_user_text table users = option_map (user_text table) (slice_get users 0)

-- the tags and users of so many nodes, by their columns, which move together
abbrev pub texts_along : List (List ℕ) → ℕ → List ℤ → List ℕ → List NodeTexts
texts_along table zero users keys_vals = []
texts_along table (suc n) users keys_vals =
    record { tags = map (tag_of table) (run keys_vals); user = next_user_text table users }
    ∷ texts_along table n (drop 1 users) (after_run keys_vals)

-- ---- what is written for them

-- the texts that they use, in the order in which a written table gets them
abbrev pub texts_used : List NodeTexts → List (List ℕ)
texts_used ns = flat_map (λ (n : NodeTexts). tag_texts n.tags ++ option_to_list n.user) ns

abbrev pub runs_for : List (List ℕ) → List NodeTexts → List ℕ
runs_for texts ns = flat_map (λ (n : NodeTexts). run_of texts n.tags) ns

-- the index of a user's text
abbrev pub user_index : List (List ℕ) → Option (List ℕ) → Option ℤ
user_index texts user = option_map (λ text. pos (index_in texts text)) user

abbrev pub users_for : List (List ℕ) → List NodeTexts → List ℤ
users_for texts ns = filter_map (λ (n : NodeTexts). user_index texts n.user) ns

abbrev pub any_tagged : List NodeTexts → Bool
any_tagged ns = list_any (λ (n : NodeTexts). are_some n.tags) ns

-- what is written of texts: the runs of tags, the users, and whether a node has a tag
pub record TextColumns : Type 0 where
  pub runs : List ℕ
  pub users : List ℤ
  pub tagged : Bool

abbrev pub columns_with : List ℕ → List ℤ → Bool → TextColumns
columns_with runs users tagged = record { runs = runs; users = users; tagged = tagged }

-- these nodes' texts are used, and their numbers come after the others, whatever texts are used later
pub record TakesTexts (ns : List NodeTexts) (old_texts new_texts : List (List ℕ)) (old new : TextColumns) : Type 0 where
  pub texts : new_texts ≡ texts_after old_texts (texts_used ns)
  pub runs : (used : List (List ℕ)) → new.runs ≡ old.runs ++ runs_for (texts_after new_texts used) ns
  pub users : (used : List (List ℕ)) → new.users ≡ old.users ++ users_for (texts_after new_texts used) ns
  pub tagged : new.tagged ≡ (old.tagged || any_tagged ns)

-- the index of the last user's text is known, unless it is 0
pub record IsKnown (table texts : List (List ℕ)) (user : ℤ) (index : ℕ) : Type 0 where
  pub named : 0 < index → has_text texts (user_text table user) ≡ true
  pub index_is : 0 < index → index ≡ index_in texts (user_text table user)
