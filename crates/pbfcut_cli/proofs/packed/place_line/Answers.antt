use Rattle.std.proofs.Common.{rules, append_assoc}
use Rattle.pbfcut_cli.proofs.packed.place_line.Goals as goal

pub returns-in-InPayload : goal.returns-in-InPayload
returns-in-InPayload c = rw c.in-InPayload.is (search (rules, append_assoc))
