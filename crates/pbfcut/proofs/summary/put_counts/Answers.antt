use Rattle.pbfcut.proofs.SummaryLemmas.{counts_put}
use Rattle.pbfcut.proofs.summary.put_counts.Goals as goal

pub returns : goal.returns
returns c = counts_put _ _ _ _ _ _ _ _ _ _ _ _ c.in_ok-put_count.ensures c.in_ok-put_count-2.ensures c.in_ok-put_count-3.ensures c.in_ok-push.ensures.items
