use Rattle.std.proofs.Common.{ap, Some}
use Rattle.pbf_strings.proofs.UsedTexts.{index_later}
use Rattle.pbf_strings.proofs.table_out.TableOut.index_if_some.Goals as goal

pub returns-in_ok-index_of-in-Some-clause-index : goal.returns-in_ok-index_of-in-Some-clause-index
returns-in_ok-index_of-in-Some-clause-index g c = λ used. rw c.in-Some.is (ap Some (index_later used _ _ _ _ c.in_ok-index_of-in-Some.ensures.texts c.in_ok-index_of-in-Some.ensures.index))
