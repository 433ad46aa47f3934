use Rattle.std.proofs.Common.{◌∷◌, ◌++◌, [], ◌∙◌, ap, subst, sym}
use Rattle.std.proofs.lemmas.List.{map_push}
use Rattle.pbf_published.specs.Published.{IsOpened}
use Rattle.pbf_published.specs.PublishedTasks.{below_of}
use Rattle.pbf_published.proofs.TaskLemmas.{opened_more, published}
use Rattle.pbf_published.proofs.running.open_all.Goals as goal

pub feeds-preserved : goal.feeds-preserved
feeds-preserved g c =
    let one = c.in_ok-open.field-0 in
    let below = c.in_ok-open.ensures.below in
    let opened = c.feeds.opened.items in
    rw c.in_ok-push.ensures.items (
      opened_more g.F.Feed (published g.F.Feed) below_of c.args.check opened one c.feeds.invariant.0 (subst (λ x. IsOpened g.F.Feed (published g.F.Feed) c.args.check x one) (sym below) c.in_ok-open.ensures.opened),
      map_push below_of opened one ∙ ap (λ l. l ++ below_of one ∷ []) c.feeds.invariant.1 ∙ ap (λ x. c.feeds.yielded ++ x ∷ []) below,
    )
