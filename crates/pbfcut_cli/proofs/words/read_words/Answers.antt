use Rattle.std.proofs.Common.{◌≡◌, ◌∙◌, [], ap, inl, subst}
use Rattle.std.proofs.lemmas.Result.{err_from_is_err_and}
use Rattle.clap.specs.Words.{App, HasKind, fault_of, is_simple, is_simple_and_free, subcommand_of, subcommand_rows_of}
use Rattle.clap.proofs.CallerLemmas.{subcommand_required}
use Rattle.pbfcut_cli.specs.Words.{AreTaken, HasFault, IsRead, program_app, word_texts}
use Rattle.pbfcut_cli.proofs.Meanings.{help_asked, line_refused, of_value}
use Rattle.pbfcut_cli.proofs.Rows.{free, offered, simple, needs_command}
use Rattle.pbfcut_cli.proofs.words.read_words.Goals as goal

pub command_in-requires : goal.command_in-requires
command_in-requires c =
    let app = c.in_ok-command_line.ensures.is in
    let words = word_texts c.args.words.now in
    let has = subcommand_required c.in_ok-command_line.command_line c.in-Ok.matches c.in-Ok.ensures.parsed
    c.in_ok-command_line.ensures.local (ap (λ (a : App). a.top.subcommand_required) app ∙ needs_command c.args.program) in
    let rows = (c.in-Ok.ensures.matches (ap is_simple app ∙ simple c.args.program)).1
    ∙ ap (λ (a : App). subcommand_of a words) app in
    offered c.args.program c.in-Ok.matches words has rows

pub returns-in_ok-command_in-in-Ok-clause-read : goal.returns-in_ok-command_in-in-Ok-clause-read
returns-in_ok-command_in-in-Ok-clause-read c =
    let app = c.in_ok-command_line.ensures.is in
    let words = word_texts c.args.words.now in
    let taken : AreTaken c.args.program words =
    subst (λ (a : App). fault_of a words ≡ []) app (c.in-Ok.ensures.kinds (ap is_simple_and_free app ∙ free c.args.program)) in
    let rows : subcommand_rows_of c.in-Ok.matches ≡ subcommand_of (program_app c.args.program) words =
    (c.in-Ok.ensures.matches (ap is_simple app ∙ simple c.args.program)).1 ∙ ap (λ (a : App). subcommand_of a words) app in
    inl (taken, subst (λ o. IsRead o c.in_ok-command_in-in-Ok.field-0) rows c.in_ok-command_in-in-Ok.ensures)

pub returns-in_err-command_in-in-Ok-clause-fault : goal.returns-in_err-command_in-in-Ok-clause-fault
returns-in_err-command_in-in-Ok-clause-fault c =
    let p = err_from_is_err_and c.from_residual-in_err-command_in-in-Ok.result c.from_residual-in_err-command_in-in-Ok.ensures.1 in
    let app = c.in_ok-command_line.ensures.is in
    let words = word_texts c.args.words.now in
    let taken : AreTaken c.args.program words =
    subst (λ (a : App). fault_of a words ≡ []) app (c.in-Ok.ensures.kinds (ap is_simple_and_free app ∙ free c.args.program)) in
    let rows : subcommand_rows_of c.in-Ok.matches ≡ subcommand_of (program_app c.args.program) words =
    (c.in-Ok.ensures.matches (ap is_simple app ∙ simple c.args.program)).1 ∙ ap (λ (a : App). subcommand_of a words) app in
    rw (p.1, p.2) (of_value c.args.program words c.in_err-command_in-in-Ok.field-0.0 taken
    (subst (λ o. HasFault o c.in_err-command_in-in-Ok.field-0.0) rows c.in_err-command_in-in-Ok.ensures))

pub returns-in-Err-clause-read : goal.returns-in-Err-clause-read
returns-in-Err-clause-read c =
    let app = c.in_ok-command_line.ensures.is in
    let words = word_texts c.args.words.now in
    let has = subst (λ (a : App). HasKind (fault_of a words) c.in-Err.error) app (c.in-Err.ensures.kinds (ap is_simple_and_free app ∙ free c.args.program)) in
    help_asked c.args.program words c.in-Err.error has c.refused.result c.refused.ensures.help

pub returns-in-Err-clause-fault : goal.returns-in-Err-clause-fault
returns-in-Err-clause-fault c =
    let app = c.in_ok-command_line.ensures.is in
    let words = word_texts c.args.words.now in
    let has = subst (λ (a : App). HasKind (fault_of a words) c.in-Err.error) app (c.in-Err.ensures.kinds (ap is_simple_and_free app ∙ free c.args.program)) in
    line_refused c.args.program words c.in-Err.error has c.refused.result c.refused.ensures.memory c.refused.ensures.line
