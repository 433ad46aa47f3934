use Rattle.std.proofs.Common.{◌≡◌, [], ◌∷◌, rules, subst}
use Rattle.pbfcut_program.specs.Lines.{counts_text, prints}
use Rattle.pbfcut_program.specs.Telling.{Tells}
use Rattle.pbfcut_program.proofs.Logging.{then_none}
use Rattle.pbfcut_program.proofs.SayingLemmas.{line_without_memory}
use Rattle.pbfcut_program.proofs.printing.print_counts.Goals as goal

pub returns-in-Err : goal.returns-in-Err
returns-in-Err g c = ([], then_none _, line_without_memory c.args.screen (counts_text c.args.counts))

pub returns-in-Ok : goal.returns-in-Ok
returns-in-Ok g c =
    let same : c.as_bytes.result.now ≡ counts_text c.args.counts = search rules in
    subst (λ text. Tells (g.H.Host.log c.args.host.now) (g.H.Host.log c.print_text.new.host) (prints c.args.screen (text ∷ [])) c.print_text.result) same c.print_text.ensures
