-- Which relations are wanted whole, by their types.
use Rattle.std.specs.Prelude.{ℕ, Bool, false, ◌||◌, ◌==◌, if◌then◌else◌, List, [], ◌∷◌, map, codes, nat_eq}
use Rattle.std.specs.Cmp.Lexicographic.{pointwise}
use Rattle.std.specs.Global.{Vec}
use Rattle.std.specs.List.{list_any, slice_split}
use Rattle.osm_entity.specs.Entity.{TagSpec}
use Rattle.osm_ways.specs.declared.whole.WholeTypes.{WholeTypes}

abbrev pub name_of : Vec ℕ → List ℕ
name_of name = name.items

-- the first tag `type` has one of these values
abbrev pub has_type : List (List ℕ) → List TagSpec → Bool
has_type names [] = false
has_type names (tag ∷ tags) = if pointwise nat_eq tag.0 (codes "type") then list_any (pointwise nat_eq tag.1) names else has_type names tags

abbrev pub is_wanted : WholeTypes → List TagSpec → Bool
is_wanted types tags = types.any || has_type (map name_of types.names.items) tags

-- the types that a text names, with commas between them; the word `any` by itself means all relations
abbrev pub is_wanted_by : List ℕ → List TagSpec → Bool
is_wanted_by text tags = pointwise nat_eq text (codes "any") || has_type (slice_split (λ b. b == 44) text) tags
