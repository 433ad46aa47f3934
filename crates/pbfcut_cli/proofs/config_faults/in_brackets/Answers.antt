use Rattle.std.proofs.Common.{rules, append_assoc}
use Rattle.pbfcut_cli.proofs.config_faults.in_brackets.Goals as goal

pub returns : goal.returns
returns c = search (rules, append_assoc)
