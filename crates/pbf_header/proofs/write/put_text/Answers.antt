use Rattle.pbf_wire.proofs.WritingLemmas.{nothing_put, each_none}
use Rattle.pbf_header.proofs.write.put_text.Goals as goal

pub returns-in_default : goal.returns-in_default
returns-in_default c = rw c.in_default.is (nothing_put _ _ (each_none _))
