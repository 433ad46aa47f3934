-- The ids of a set, one after the other.
use Rattle.std.proofs.Common.{◌≡◌, ℕ, ◌+◌, ◌*◌, ◌/◌, ◌%◌, ◌<◌, List, ◌∷◌, length, take, drop, get_or, ℤ, pos, sym, ap, ◌∙◌, arith}
use Rattle.std.specs.FinSet as set
use Rattle.std.proofs.lemmas.List.{drop_more, get_or-drop, get_or-take, length-drop, length-take}
use Rattle.osm_ids.specs.declared.page.PageIds.{PageIds}
use Rattle.osm_ids.specs.Pages.{rising}
use Rattle.osm_ids.specs.Windows.{held}
use Rattle.osm_ids.proofs.Sets.{Ids}
use Rattle.osm_ids.proofs.Rising.{len-rising, rising_rises, ids_of-rising}

pub len_is : (ids : Ids) → length (rising ids) ≡ set.len ids
len_is ids = sym (len-rising (rising ids) (rising_rises ids)) ∙ ap (λ (s : Ids). set.len s) (ids_of-rising ids)

-- the next id is one of its page
pub walked : (ids : List ℤ) (page : PageIds) (came : ℕ) → came < length ids → held page ≡ take 128 (drop (128 * (came / 128)) ids) → drop came ids ≡ get_or page.ids (came % 128) (pos 0) ∷ drop (came + 1) ids
walked ids page came lt e =
    let front = drop (128 * (came / 128)) ids in
    let within : came % 128 < page.count = omega (arith, lt, ap length e, length-take 128 front, length-drop (128 * (came / 128)) ids, length-take page.count page.ids) in
    let at : 128 * (came / 128) + came % 128 ≡ came = omega arith in
    grind (arith, drop_more ids came (pos 0) lt, get_or-drop (128 * (came / 128)) ids (came % 128) (pos 0), get_or-take 128 front (came % 128) (pos 0), get_or-take page.count page.ids (came % 128) (pos 0) within)
