use Rattle.std.proofs.Common.{[], ◌∷◌, Some}
use Rattle.pbfcut_program.specs.declared.host.PrintFault.TheVariants as line
use Rattle.pbfcut_program.specs.Events.{printed}
use Rattle.pbfcut_program.proofs.SayingLemmas.{broken_line}
use Rattle.pbfcut_program.proofs.printing.print_text.Goals as goal

pub returns-in-Err-Failed : goal.returns-in-Err-Failed
returns-in-Err-Failed g c =
    let failed = rw c.in-Err-Failed.field-0-is at c.in-Err-Failed.ensures in
    (printed c.args.screen c.args.text.now (Some line.Failed) ∷ [], failed, broken_line c.args.screen c.args.text.now line.Failed)

pub returns-in-Err-Closed : goal.returns-in-Err-Closed
returns-in-Err-Closed g c =
    let closed = rw c.in-Err-Closed.field-0-is at c.in-Err-Closed.ensures in
    (printed c.args.screen c.args.text.now (Some line.Closed) ∷ [], closed, broken_line c.args.screen c.args.text.now line.Closed)
