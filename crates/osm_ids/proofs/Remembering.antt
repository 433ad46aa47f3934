-- What a growing set knows of its pages.
use Rattle.std.proofs.Common.{List, ℤ, sym, ◌∙◌, arith}
use Rattle.std.specs.List.{list_any}
use Rattle.std.specs.Ordering.{int_eq}
use Rattle.std.specs.FinSet as set
use Rattle.std.proofs.lemmas.Bool.{or_cases}
use Rattle.std.proofs.lemmas.Int.{ints}
use Rattle.osm_ids.specs.declared.page.PageIds.{PageIds}
use Rattle.osm_ids.specs.Order.{IsAbove, IsReached, AreLate}
use Rattle.osm_ids.specs.Windows.{IsTruePage}
use Rattle.osm_ids.proofs.Sets.{Ids, insert_has}
use Rattle.osm_ids.proofs.Rising.{other_above}
use Rattle.osm_ids.proofs.OrderLemmas.{with_late, contains-with_late, known_laid}

-- a greater id leaves true what a page says
pub kept_insert : (ids : Ids) (id : ℤ) (page : PageIds) → IsAbove ids id → IsTruePage ids page → IsTruePage (set.insert ids id) page
kept_insert ids id page up k =
    record {
      rising = k.rising;
      within = k.within;
      some = k.some;
      top = k.top;
      inside = λ x e. insert_has ids id x (k.inside x e);
      answer = λ x low below. grind (arith, ints, set.members, k.reached x low below, up ((k.reached x low below).0) ((k.reached x low below).1), other_above x id (omega (arith, ints, (up (k.reached x low below).0 (k.reached x low below).1), ((k.reached x low below).2))), k.answer x low below);
      reached = λ x low below. let reached = k.reached x low below in (reached.0, insert_has ids id reached.0 reached.1, reached.2);
    }

-- an id that one of a growing set reaches is reached in its pages
pub reached_laid : (ids : Ids) (late : List ℤ) (id : ℤ) → AreLate ids late → IsReached (with_late ids late) id → IsReached ids id
reached_laid ids late id l reached = grind (arith, or_cases (set.contains ids (reached.0)) (list_any (int_eq (reached.0)) late) (sym (contains-with_late ids late (reached.0)) ∙ reached.1), contains-with_late ids late (reached.0), l (reached.0))

pub reached_all : (ids : Ids) (late : List ℤ) (id : ℤ) → IsReached ids id → IsReached (with_late ids late) id
reached_all ids late id reached = (reached.0, known_laid ids late reached.0 reached.1, reached.2)
