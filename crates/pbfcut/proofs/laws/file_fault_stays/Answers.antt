use Rattle.pbfcut.proofs.StayLemmas.{file_stays, sorted_stays, writable_stays}
use Rattle.pbfcut.proofs.laws.file_fault_stays.Goals as goal

pub returns-clause-judged : goal.returns-clause-judged
returns-clause-judged c = file_stays

pub returns-clause-writable : goal.returns-clause-writable
returns-clause-writable c = writable_stays

pub returns-clause-sorted : goal.returns-clause-sorted
returns-clause-sorted c = sorted_stays
