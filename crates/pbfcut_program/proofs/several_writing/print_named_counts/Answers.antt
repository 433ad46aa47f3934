use Rattle.std.proofs.Common.{[]}
use Rattle.pbfcut_program.specs.declared.host.Screen.TheVariants.{Output}
use Rattle.pbfcut_program.specs.Lines.{named_counts_text}
use Rattle.pbfcut_program.proofs.Logging.{then_none}
use Rattle.pbfcut_program.proofs.SayingLemmas.{line_without_memory}
use Rattle.pbfcut_program.proofs.several_writing.print_named_counts.Goals as goal

pub returns-in-Err : goal.returns-in-Err
returns-in-Err g c = ([], then_none _, line_without_memory Output (named_counts_text c.args.counts c.args.output.now))
