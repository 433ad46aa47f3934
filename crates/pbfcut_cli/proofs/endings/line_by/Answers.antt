use Rattle.std.proofs.Common.{rules, append_assoc}
use Rattle.pbfcut_cli.proofs.endings.line_by.Goals as goal

pub returns-in-Changed : goal.returns-in-Changed
returns-in-Changed c = rw c.in-Changed.is (search (rules, append_assoc))
