use Rattle.std.proofs.Common.{[], refl, arith}
use Rattle.osm_ids.specs.Pages.{pages_past}
use Rattle.osm_ids.proofs.pages.SealedIds.new.Goals as goal

pub invariant_of-result : goal.invariant_of-result
unfolding pages_past
invariant_of-result c = ([], record { starts = c.new.ensures.items; spelled = c.new-2.ensures.items; rising = tt; fits = tt }, refl, λ some. absurd (omega (arith, some)))
