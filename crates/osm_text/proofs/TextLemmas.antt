-- Text that is put together part by part.
use Rattle.std.proofs.Common.{◌≡◌, ℕ, ℤ, List, ◌∷◌, ◌++◌, Bool, ap, sym, ◌∙◌, append_assoc}
use Rattle.std.specs.List.{flat_map}
use Rattle.osm_entity.specs.declared.scale.Scale.{Scale}
use Rattle.osm_entity.specs.Entity.{TagSpec, MetaSpec, LocationSpec, meta_in_millis}
use Rattle.osm_text.specs.EntityText.{common_text, meta_text, tag_text, ref_text, location_text, refs_text}

-- parts were put, and then one more
pub part_then : (before mid after parts last : List ℕ) → mid ≡ before ++ parts → after ≡ mid ++ last → after ≡ before ++ (parts ++ last)
part_then before mid after parts last e f = f ∙ ap (λ (xs : List ℕ). xs ++ last) e ∙ append_assoc before parts last

-- four parts were put
pub four_parts : (before a b c after : List ℕ) (first second third last : List ℕ) → a ≡ before ++ first → b ≡ a ++ second → c ≡ b ++ third → after ≡ c ++ last → after ≡ before ++ (first ++ second ++ third ++ last)
four_parts before a b c after first second third last e f g h =
    part_then before c after (first ++ second ++ third) last (part_then before b c (first ++ second) third (part_then before a b first second e f) g) h

-- the metadata and tags that were put are those of an entity
pub common_of_entity : (dates : Bool) (s scale : Scale) (m meta : MetaSpec) (ts tags : List TagSpec) (before mid after : List ℕ) → s ≡ scale → m ≡ meta → ts ≡ tags → mid ≡ before ++ meta_text dates (meta_in_millis s m) → after ≡ mid ++ flat_map tag_text ts → after ≡ before ++ common_text dates (meta_in_millis scale meta) tags
unfolding common_text
common_of_entity dates s scale m meta ts tags before mid after is_scale is_meta is_tags e f =
    part_then before mid after (meta_text dates (meta_in_millis s m)) (flat_map tag_text ts) e f
    ∙ ap (λ (x : Scale). before ++ common_text dates (meta_in_millis x m) ts) is_scale
    ∙ ap (λ (x : MetaSpec). before ++ common_text dates (meta_in_millis scale x) ts) is_meta
    ∙ ap (λ (x : List TagSpec). before ++ common_text dates (meta_in_millis scale meta) x) is_tags

-- a ref and its location were put
pub refs_located : (ids rest : List ℤ) (locations left : List LocationSpec) (id : ℤ) (location : LocationSpec) (all before mid after : List ℕ) → ids ≡ id ∷ rest → locations ≡ location ∷ left → before ++ refs_text ids locations ≡ all → mid ≡ before ++ ref_text id → after ≡ mid ++ location_text location → after ++ refs_text rest left ≡ all
refs_located ids rest locations left id location all before mid after e f so_far ref place =
    let step : refs_text ids locations ≡ ref_text id ++ location_text location ++ refs_text rest left = ap (λ (xs : List ℤ). refs_text xs locations) e ∙ ap (refs_text (id ∷ rest)) f in
    ap (λ (xs : List ℕ). xs ++ refs_text rest left) (part_then before mid after (ref_text id) (location_text location) ref place)
    ∙ append_assoc before (ref_text id ++ location_text location) (refs_text rest left)
    ∙ ap (λ (xs : List ℕ). before ++ xs) (sym step)
    ∙ so_far
