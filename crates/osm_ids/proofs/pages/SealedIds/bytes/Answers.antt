use Rattle.std.proofs.Common.{arith}
use Rattle.osm_ids.proofs.Rising.{rising_of_set}
use Rattle.osm_ids.proofs.Sealing.{sealed_ids}
use Rattle.osm_ids.proofs.pages.SealedIds.bytes.Goals as goal

pub returns : goal.returns
returns c = grind (arith, rising_of_set, sealed_ids)
