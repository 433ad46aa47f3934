use Rattle.std.specs.Prelude.{Some}
use Rattle.pbf_pass.specs.HeaderLimit.{judged_writable}
use Rattle.pbf_pass.specs.Judged.{judged_file}
use Rattle.pbf_pass.specs.SortedFile.{judged_sorted}
use Rattle.pbf_pass.specs.Stops.{FaultOf}
use Rattle.pbfcut.proofs.StayLemmas.{file_stays, sorted_stays, writable_stays, always}
use Rattle.pbfcut.proofs.laws.refusal_stays.Goals as goal

pub returns-clause-judged : goal.returns-clause-judged
returns-clause-judged g c = λ old new fault bytes stays. always (λ b. FaultOf (judged_file (Some b)) fault) bytes.read (g.F.Feed.remaining new) (λ b rest is. file_stays b rest fault is stays) bytes.faulty

pub returns-clause-writable : goal.returns-clause-writable
returns-clause-writable g c = λ old new fault bytes stays short. always (λ b. FaultOf (judged_writable (Some b)) fault) bytes.read (g.F.Feed.remaining new) (λ b rest is. writable_stays b rest fault is stays short) bytes.faulty

pub returns-clause-sorted : goal.returns-clause-sorted
returns-clause-sorted g c = λ old new fault bytes stays short sorted. always (λ b. FaultOf (judged_sorted (Some b)) fault) bytes.read (g.F.Feed.remaining new) (λ b rest is. sorted_stays b rest fault is stays short sorted) bytes.faulty
