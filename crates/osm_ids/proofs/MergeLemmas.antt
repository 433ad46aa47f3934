-- Late ids among those of a set.
use Rattle.std.proofs.Common.{◌≡◌, true, ◌||◌, List, [], ◌∷◌, Option, IfNone, Bor, Some, None, ℤ, ◌<ℤ◌, ◌≤ℤ◌, sym, subst, arith}
use Rattle.std.specs.List.{list_any, cons_option}
use Rattle.std.specs.Option.{option_copied}
use Rattle.std.specs.Map.Iter.{TakesFirst, deref}
use Rattle.std.specs.Ordering.{int_eq, int_cmp}
use Rattle.std.specs.FinSet as set
use Rattle.std.proofs.lemmas.Bool.{or_right}
use Rattle.std.proofs.lemmas.Int.{ints}
use Rattle.osm_ids.specs.Pages.{Rises, IsRising, rising}
use Rattle.osm_ids.specs.Order.{AreLate}
use Rattle.osm_ids.proofs.Sets.{Ids, ids_of, contains-ids_of, insert_cases}
use Rattle.osm_ids.proofs.Rising.{first_among, none_above, rising_tail, rises_from, rising_rises, ids_of-rising}
use Rattle.osm_ids.proofs.OrderLemmas.{with_late, same_ids}
use Rattle.osm_ids.proofs.Kept.{has_rising}

-- of all ids these are appended, and these are left of the late ones and of the others
pub record Merging (all done : Ids) (late ids : List ℤ) : Type 0 where
  pub same : (x : ℤ) → (set.contains done x || (list_any (int_eq x) ids || list_any (int_eq x) late)) ≡ set.contains all x
  pub below : (x : ℤ) → set.contains done x ≡ true → Rises x late × Rises x ids
  pub rises : IsRising late × IsRising ids
  pub reached : AreLate (ids_of ids) late

pub merging_start : (ids : Ids) (late : List ℤ) → AreLate ids late → IsRising late → Merging (with_late ids late) set.empty late (rising ids)
merging_start ids late l h = grind (arith, ints, set.members, has_rising ids, set.contains-empty int_cmp, rising_rises ids, ids_of-rising ids)

-- the first of the others is below the late ones
pub merging_id : (all done : Ids) (late ids : List ℤ) (id : ℤ) → Merging all done late (id ∷ ids) → Rises id late → Merging all (set.insert done id) late ids
merging_id all done late ids id m up = grind (arith, ints, set.members, insert_cases done id, rises_from, rising_tail id ids m.rises.1, contains-ids_of ids, contains-ids_of (id ∷ ids), none_above id late)

-- or it isn't
pub merging_late : (all done : Ids) (late ids : List ℤ) (other id : ℤ) → Merging all done (other ∷ late) (id ∷ ids) → other ≤ℤ id → Merging all (set.insert done other) late (id ∷ ids)
merging_late all done late ids other id m le = grind (arith, ints, set.members, m.reached other (first_among other late), first_among other late, first_among other ids, contains-ids_of (id ∷ ids) other, insert_cases done other, rises_from, rising_tail other late m.rises.0, or_right)

-- nothing is left
pub merging_end : (all done : Ids) (late ids : List ℤ) → Merging all done late ids → ids ≡ [] → done ≡ all
merging_end all done late ids h4 h5 = grind (arith, same_ids, first_among, set.contains-empty)

-- the next of an ordered set
pub taken : (s t : List ℤ) (r : Option (Bor ℤ)) (next : Option ℤ) → TakesFirst (deref {X = ℤ}) s r t → next ≡ option_copied r → s ≡ cons_option next t
taken s t r next h4 h5 = grind arith

pub taken_none : (s t : List ℤ) (r : Option (Bor ℤ)) (next : Option ℤ) → TakesFirst (deref {X = ℤ}) s r t → next ≡ option_copied r → IfNone next (t ≡ [])
taken_none s t r next h4 h5 = grind arith

-- an id is below the late ones, if it is below the next or there is none
pub up_some : (next : Option ℤ) (late : List ℤ) (other id : ℤ) → next ≡ Some other → id <ℤ other → IsRising (cons_option next late) → Rises id (cons_option next late)
up_some next late other id e lower h = subst (λ (o : Option ℤ). Rises id (cons_option o late)) (sym e) (lower, subst (λ (o : Option ℤ). IsRising (cons_option o late)) e h)

pub up_none : (next : Option ℤ) (late : List ℤ) (id : ℤ) → next ≡ None → IfNone next (late ≡ []) → Rises id (cons_option next late)
up_none next late id h3 h4 = grind arith
