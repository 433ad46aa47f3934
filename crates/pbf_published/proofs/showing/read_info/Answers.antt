use Rattle.std.proofs.Common.{[], ◌∙◌}
use Rattle.pbf_pass.specs.Hashing.{hash_log}
use Rattle.pbf_pass.specs.declared.hashing.PassCheck.TheVariants as check
use Rattle.pbf_published.specs.Published.{log_number}
use Rattle.pbf_published.proofs.ShowingLemmas.{stored_told, tells_info}
use Rattle.pbf_published.proofs.TracedLemmas.{traced_all}
use Rattle.pbf_published.proofs.showing.read_info.Goals as goal

pub returns-in_ok-info_text-in-Ok-clause-told : goal.returns-in_ok-info_text-in-Ok-clause-told
returns-in_ok-info_text-in-Ok-clause-told g c =
    let has = g.F.Feed.remaining c.args.feed.now in
    let given = c.in-Ok.ensures.gave in
    let log = log_number (hash_log check.None) (hash_log check.None) has in
    tells_info _ c.args.json _ _ _ c.in-Ok.summary c.stored-stored.result has _ c.in_ok-input.ensures.opened.remaining given (λ packed is ended.
    let gave = c.stored-stored.ensures.gave log _ ended (given.supplied.gave.logged log [] c.in_ok-input.ensures.opened.hashed) in
    stored_told has packed gave.packed _ is (traced_all _ _ (hash_log check.None) (hash_log check.None) has gave.packed (gave.end ended) gave.passed) (c.stored-stored.ensures.value ∙ gave.stored)) c.in_ok-info_text-in-Ok.ensures
