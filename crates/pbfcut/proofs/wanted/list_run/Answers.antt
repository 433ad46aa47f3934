use Rattle.std.proofs.Common.{◌∙◌, rules}
use Rattle.pbfcut.proofs.WantedLemmas.{wanted_nobody, wanted_shared}
use Rattle.pbfcut.proofs.wanted.list_run.Goals as goal

pub returns-else-some-clause-wanted : goal.returns-else-some-clause-wanted
returns-else-some-clause-wanted c es are = wanted_nobody c.args.strips.now es _ c.args.marks.now c.mark_run-some.new.marks c.mark_run-some.result c.args.lists.now (search rules) c.mark_run-some.ensures are

pub returns-in_ok-share-clause-wanted : goal.returns-in_ok-share-clause-wanted
returns-in_ok-share-clause-wanted c es are = wanted_shared c.args.strips.now es c.args.run.now c.args.marks.now c.mark_run-some.new.marks c.mark_run-some.result c.args.lists.now c.share.new.lists (c.mark_run-some.ensures.marked.as_many ∙ c.requires) c.mark_run-some.ensures c.in_ok-share.ensures.shared are
