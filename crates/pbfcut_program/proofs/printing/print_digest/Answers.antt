use Rattle.std.proofs.Common.{◌≡◌, [], ◌∷◌, rules, subst}
use Rattle.osm_text.specs.Digests.{digest_line}
use Rattle.pbfcut_program.specs.Lines.{prints}
use Rattle.pbfcut_program.specs.Telling.{Tells}
use Rattle.pbfcut_program.proofs.Logging.{then_none}
use Rattle.pbfcut_program.proofs.SayingLemmas.{line_without_memory}
use Rattle.pbfcut_program.proofs.printing.print_digest.Goals as goal

pub returns-in-Err : goal.returns-in-Err
returns-in-Err g c = ([], then_none _, line_without_memory c.args.screen (digest_line c.args.digest c.args.path.now))

pub returns-in-Ok : goal.returns-in-Ok
returns-in-Ok g c =
    let same : c.deref.result.now ≡ digest_line c.args.digest c.args.path.now = search rules in
    subst (λ text. Tells (g.H.Host.log c.args.host.now) (g.H.Host.log c.print_text.new.host) (prints c.args.screen (text ∷ [])) c.print_text.result) same c.print_text.ensures
