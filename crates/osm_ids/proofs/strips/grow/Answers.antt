use Rattle.std.proofs.Common.{◌∷◌, []}
use Rattle.osm_ids.proofs.StripLemmas.{also_append}
use Rattle.osm_ids.proofs.strips.grow.Goals as goal

pub strips-preserved : goal.strips-preserved
strips-preserved c = rw c.in_ok-push.ensures.items (λ index number there. also_append c.strips.strips.items (c.new.result ∷ []) index number (c.strips.invariant index number there))
