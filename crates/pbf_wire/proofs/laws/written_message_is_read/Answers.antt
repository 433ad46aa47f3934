use Rattle.pbf_wire.proofs.MessageLemmas.{embedded_below}
use Rattle.pbf_wire.proofs.laws.written_message_is_read.Goals as goal

pub returns-clause-shorter : goal.returns-clause-shorter
returns-clause-shorter c = embedded_below
