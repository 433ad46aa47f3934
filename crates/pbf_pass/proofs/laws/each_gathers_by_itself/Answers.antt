use Rattle.pbf_pass.proofs.EachLemmas.{each_takes_file, fold_each}
use Rattle.pbf_pass.proofs.laws.each_gathers_by_itself.Goals as goal

pub returns-clause-entities : goal.returns-clause-entities
returns-clause-entities g c = fold_each

pub returns-clause-judged : goal.returns-clause-judged
returns-clause-judged g c = each_takes_file
