use Rattle.std.proofs.Common.{arith}
use Rattle.pbf_unpack.proofs.PayloadLemmas.{first_room_does}
use Rattle.pbf_unpack.proofs.payload.inflate_raw.Goals as goal

pub returns-then-is_none-clause-exact : goal.returns-then-is_none-clause-exact
returns-then-is_none-clause-exact c = grind (arith, first_room_does)
