use Rattle.std.proofs.Common.{subst}
use Rattle.pbf_published.specs.PublishedTasks.{AreOpened, below_of}
use Rattle.pbf_published.proofs.TaskLemmas.{published}
use Rattle.pbfcut_program.proofs.opening.open_inputs.Goals as goal

pub returns-in_ok-open_all-in-Pbfcutz-clause-ready : goal.returns-in_ok-open_all-in-Pbfcutz-clause-ready
returns-in_ok-open_all-in-Pbfcutz-clause-ready g c =
    let opened = c.in_ok-open_all-in-Pbfcutz in (
      c.in-Pbfcutz.is,
      subst (λ by. AreOpened g.F.Feed (published g.F.Feed) below_of by opened.field-0.items) c.many_passes-check.ensures opened.ensures.opened,
    )
