-- Ids by spans of stored places are those of the nodes in the box.
use Rattle.std.proofs.Common.{◌≡◌, ◌+◌, ◌<◌, ◌≤◌, length, ℕ, zero, suc, ℤ, Bool, true, false, ◌&&◌, cond, List, [], ◌∷◌, map, drop, take, refl, sym, ap, ap₂, ◌∙◌, arith, add-one, subst}
use Rattle.std.proofs.Math.Seq.{take-add}
use Rattle.std.proofs.lemmas.List.{drop-drop, length-drop, take_all}
use Rattle.pbf_wire.specs.Spans.{is_in, AreAlike, ArePassed}
use Rattle.pbf_wire.specs.declared.span.Span.{Span}
use Rattle.pbf_wire.proofs.SpanLemmas.{one_past}
use Rattle.osm_box.specs.BoundingBox.{is_between}
use Rattle.osm_box.specs.declared.bounding_box.BoundingBox.{BoundingBox}
use Rattle.osm_entity.specs.declared.scale.Scale.{Scale}
use Rattle.osm_entity.specs.Entity.{NodeSpec}
use Rattle.osm_entity.specs.Sources.{tag_of, run}
use Rattle.osm_entity.specs.Scale.{nano_lat, nano_lon}
use Rattle.pbf_wire.proofs.AllLemmas.{all_append}
use Rattle.pbf_dense.specs.Info.{InfoSpec, meta_at, info_rest}
use Rattle.pbf_dense.specs.Runs.{after_run}
use Rattle.pbf_dense.specs.Nodes.{nodes_of_columns}
use Rattle.pbf_dense.specs.Within.{lies_in, ids_within, ids_along}
use Rattle.pbf_dense.proofs.MovingLemmas.{drop_one}

-- ---- a column that has ended

pub no_lats : (lat_span lon_span : Span) (ids lons : List ℤ) → ids_along lat_span lon_span ids [] lons ≡ []
no_lats lat_span lon_span [] lons = refl
no_lats lat_span lon_span (id ∷ ids) lons = refl

pub no_lons : (lat_span lon_span : Span) (ids lats : List ℤ) → ids_along lat_span lon_span ids lats [] ≡ []
no_lons lat_span lon_span (id ∷ ids) (lat ∷ lats) = refl
no_lons lat_span lon_span ids lats = refl

-- ---- the nodes of the message

one_more : (area : BoundingBox) (there : Bool) (n : NodeSpec) (ids : List ℤ) (ns : List NodeSpec) → there ≡ lies_in area n → ids ≡ ids_within area ns
    → (cond there (n.id ∷ ids) ids) ≡ ids_within area (n ∷ ns)
one_more area true n ids ns h e = rw (sym h) (ap (λ (l : List ℤ). n.id ∷ l) e)
one_more area false n ids ns h e = rw (sym h) e

pub within_are : (table : List (List ℕ)) (scale : Scale) (ids lats lons : List ℤ) (info : InfoSpec) (keys_vals : List ℕ) (area : BoundingBox) (lat_span lon_span : Span)
    → ((lat : ℤ) → is_in lat_span lat ≡ is_between area.bottom area.top (nano_lat scale lat))
    → ((lon : ℤ) → is_in lon_span lon ≡ is_between area.left area.right (nano_lon scale lon))
    → ids_along lat_span lon_span ids lats lons ≡ ids_within area (nodes_of_columns table scale ids lats lons info keys_vals)
within_are table scale (id ∷ ids) (lat ∷ lats) (lon ∷ lons) info keys_vals area lat_span lon_span by_lat by_lon =
    let n : NodeSpec = record { id = id; lat = lat; lon = lon; meta = meta_at table info 0; tags = map (tag_of table) (run keys_vals); scale = scale } in
    one_more area (is_in lat_span lat && is_in lon_span lon) n (ids_along lat_span lon_span ids lats lons) (nodes_of_columns table scale ids lats lons (info_rest info) (after_run keys_vals)) (ap₂ (λ (a b : Bool). a && b) (by_lat lat) (by_lon lon))
    (within_are table scale ids lats lons (info_rest info) (after_run keys_vals) area lat_span lon_span by_lat by_lon)
within_are table scale ids lats lons info keys_vals area lat_span lon_span by_lat by_lon = refl

-- ---- nodes that are skipped

and_false : (b : Bool) → (b && false) ≡ false
and_false true = refl
and_false false = refl

-- a node outside gives nothing
pub one_outside : (lat_span lon_span : Span) (ids lats lons : List ℤ) (lon : ℤ) → is_in lon_span lon ≡ false
    → ids_along lat_span lon_span ids lats (lon ∷ lons) ≡ ids_along lat_span lon_span (drop 1 ids) (drop 1 lats) lons
one_outside lat_span lon_span [] lats lons lon h = refl
one_outside lat_span lon_span (id ∷ ids) [] lons lon h = sym (no_lats lat_span lon_span ids lons)
one_outside lat_span lon_span (id ∷ ids) (lat ∷ lats) lons lon h = rw (h, and_false (is_in lat_span lat)) refl

-- nor do so many
pub some_outside : (lat_span lon_span : Span) (n : ℕ) (ids lats lons : List ℤ) → AreAlike lon_span false (take n lons)
    → ids_along lat_span lon_span ids lats lons ≡ ids_along lat_span lon_span (drop n ids) (drop n lats) (drop n lons)
some_outside lat_span lon_span zero ids lats lons outside = refl
some_outside lat_span lon_span (suc n) ids lats [] outside = no_lons lat_span lon_span ids lats ∙ sym (no_lons lat_span lon_span (drop (suc n) ids) (drop (suc n) lats))
some_outside lat_span lon_span (suc n) ids lats (lon ∷ lons) outside =
    one_outside lat_span lon_span ids lats lons lon outside.0
    ∙ some_outside lat_span lon_span n (drop 1 ids) (drop 1 lats) lons outside.1
    ∙ ap₂ (λ (a b : List ℤ). ids_along lat_span lon_span a b (drop n lons)) (sym (drop_one n ids)) (sym (drop_one n lats))

-- a node, and so many after it
pub skipped : (lat_span lon_span : Span) (n : ℕ) (ids lats lons more_ids more_lats more_lons : List ℤ) → AreAlike lon_span false (take n lons)
    → more_ids ≡ drop (n + 1) ids → more_lats ≡ drop (n + 1) lats → more_lons ≡ drop n lons
    → ids_along lat_span lon_span (drop 1 ids) (drop 1 lats) lons ≡ ids_along lat_span lon_span more_ids more_lats more_lons
skipped lat_span lon_span n ids lats lons more_ids more_lats more_lons outside e f g =
    rw (e, f, g, add-one n, drop_one n ids, drop_one n lats) (some_outside lat_span lon_span n (drop 1 ids) (drop 1 lats) lons outside)

pub none_inside : (lat_span lon_span : Span) (ids lats lons : List ℤ) → AreAlike lon_span false lons → ids_along lat_span lon_span ids lats lons ≡ []
none_inside lat_span lon_span ids lats [] outside = no_lons lat_span lon_span ids lats
none_inside lat_span lon_span ids lats (lon ∷ lons) outside =
    one_outside lat_span lon_span ids lats lons lon outside.0 ∙ none_inside lat_span lon_span (drop 1 ids) (drop 1 lats) lons outside.1

-- ---- values that are skipped

-- so many more
pub more_passed : (values left more : List ℤ) (span : Span) (m n : ℕ) → ArePassed span false values left m → ArePassed span false left more n → ArePassed span false values more (m + n)
more_passed values left more span m n passed next = record {
  passed = next.passed ∙ ap (drop n) passed.passed ∙ drop-drop n m values;
  alike = subst (λ (l : List ℤ). AreAlike span false l) (sym (take-add m n values)) (all_append _ (take m values) (take n (drop m values)) passed.alike (subst (λ (l : List ℤ). AreAlike span false (take n l)) passed.passed next.alike));
  there = omega (arith, passed.there, next.there, ap length passed.passed, length-drop m values);
  few = passed.few;
}

-- and one more
pub one_more_passed : (values left next : List ℤ) (span : Span) (n : ℕ) (value : ℤ) → ArePassed span false values left n → left ≡ value ∷ next → is_in span value ≡ false → ArePassed span false values next (n + 1)
one_more_passed values left next span n value passed e there =
    let more : n + 1 ≡ suc n = omega arith in
    rw more (one_past span false values next value n (subst (λ (l : List ℤ). ArePassed span false values l n) e passed) there)

-- then all are, if none is left
pub all_passed : (values left : List ℤ) (span : Span) (n : ℕ) → ArePassed span false values left n → left ≡ [] → AreAlike span false values
all_passed values left span n passed none =
    let all : length values ≤ n = omega (arith, ap length none, ap length passed.passed, length-drop n values) in
    subst (λ (l : List ℤ). AreAlike span false l) (take_all n values all) passed.alike

pub shorter : (values next : List ℤ) (n : ℕ) (value : ℤ) → drop n values ≡ value ∷ next → length next < length values
shorter values next n value e = omega (arith, ap length e, length-drop n values)

pub fewer : (s t : List ℤ) (x : ℤ) → s ≡ x ∷ t → length t < length s
fewer s t x e = omega (arith, ap length e)
