-- The order of links, and sets of them.
use Rattle.std.proofs.Common.{◌≡◌, Bool, true, ◌&&◌, List, [], ◌∷◌, ℤ, ◌≤ℤ◌, refl, sym, ap, ◌∙◌, arith, FitsSigned, w64}
use Rattle.std.specs.List.{filter}
use Rattle.std.specs.Ordering.{eq_by_cmp, is_eq}
use Rattle.std.proofs.lemmas.Int.{ints}
use Rattle.std.specs.Cmp.{IsTotalOrder, int_cmp_total, then_total, on_total, tied_itself}
use Rattle.std.specs.BTreeSet.{insert_key}
use Rattle.std.specs.FinSet as set
use Rattle.std.specs.declared.ops.Bound.TheVariants.{Included}
use Rattle.std.specs.BTreeMap.Range.{range_contains}
use Rattle.std.proofs.lemmas.Bool.{or_cases, or_left, or_right}
use Rattle.std.proofs.lemmas.Map.Views.{any-filter_same}
use Rattle.osm_ids.specs.declared.links.Link.{Link}
use Rattle.osm_ids.specs.Links.{link_cmp, is_link_among, is_of, ParentsFit}
use Rattle.osm_ids.proofs.Sets.{any-insert_key, from_list-insert_key}

pub link_cmp_total : IsTotalOrder link_cmp
link_cmp_total = then_total (on_total (λ (l : Link). l.member) int_cmp_total) (on_total (λ (l : Link). l.parent) int_cmp_total)

abbrev pub link_of : ℤ → ℤ → Link
link_of member parent = record { member = member; parent = parent }

pub link_cmp-IsAntisymmetric : set.IsAntisymmetric link_cmp
link_cmp-IsAntisymmetric a b e = grind (arith, ints)

-- the test of a set of links is the test of its keys
pub contains-links : (links : List Link) → set.contains (set.from_list {R = link_cmp} links) ≡ is_link_among links
contains-links links = λ i l. set.contains-from_list link_cmp_total links l i

pub links-insert_key : (links : List Link) (new : Link) → set.from_list {R = link_cmp} (insert_key link_cmp links new) ≡ set.insert (set.from_list links) new
links-insert_key = from_list-insert_key link_cmp_total link_cmp-IsAntisymmetric

-- a link that is found is the one that was looked for
pub found_is : (l x : Link) → eq_by_cmp link_cmp l x ≡ true → l ≡ x
found_is l x e = grind (arith, ints)

pub found_itself : (l : Link) → eq_by_cmp link_cmp l l ≡ true
found_itself l = ap is_eq (tied_itself link_cmp_total l)

pub fit_more : (links : List Link) (new : Link) → ParentsFit links → FitsSigned w64 new.parent → ParentsFit (insert_key link_cmp links new)
fit_more links new fit f l h = grind (arith, or_cases (eq_by_cmp link_cmp l new) (is_link_among links l) (sym (any-insert_key link_cmp_total link_cmp-IsAntisymmetric links new l) ∙ h), any-insert_key link_cmp_total link_cmp-IsAntisymmetric links new l, found_is l new, fit l)

-- ---- the links of one id lie side by side

-- a link between the least and the greatest link of an id is one of its links
between_is : (id lo hi : ℤ) (l : Link) → lo ≤ℤ l.parent → l.parent ≤ℤ hi → range_contains link_cmp (Included (link_of id lo)) (Included (link_of id hi)) l ≡ is_of id l
between_is id lo hi l low high = grind (arith, ints)

module _ (p q : Link → Bool) where
  alike_kept : (links : List Link) → ((l : Link) → is_link_among links l ≡ true → p l ≡ q l) → filter p links ≡ filter q links
  alike_kept [] h = refl
  alike_kept (x ∷ links) h = grind (arith, h x (or_left (eq_by_cmp link_cmp x x) (is_link_among links x) (found_itself x)), or_left (eq_by_cmp link_cmp x x) (is_link_among links x) (found_itself x), found_itself x, alike_kept links (λ l e. h l (or_right (eq_by_cmp link_cmp l x) (is_link_among links l) e)), or_right, q x)

pub links_between : (links : List Link) (id lo hi : ℤ) → ((l : Link) → is_link_among links l ≡ true → (lo ≤ℤ l.parent) × (l.parent ≤ℤ hi)) → filter (range_contains link_cmp (Included (link_of id lo)) (Included (link_of id hi))) links ≡ filter (is_of id) links
links_between links id lo hi fit = alike_kept _ _ links (λ l e. between_is id lo hi l (fit l e).0 (fit l e).1)

-- a filter keeps the links of an id
pub kept_among : (id : ℤ) (links : List Link) (l : Link) → is_link_among (filter (is_of id) links) l ≡ (is_of id l && is_link_among links l)
kept_among id links l = any-filter_same (eq_by_cmp link_cmp l) (is_of id) (is_of id l) (λ x e. ap (is_of id) (sym (found_is l x e))) links
