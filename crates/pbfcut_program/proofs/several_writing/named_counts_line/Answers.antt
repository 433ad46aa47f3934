use Rattle.std.proofs.Common.{rules, append_assoc}
use Rattle.pbfcut_program.proofs.several_writing.named_counts_line.Goals as goal

pub returns : goal.returns
returns c = search (rules, append_assoc)
