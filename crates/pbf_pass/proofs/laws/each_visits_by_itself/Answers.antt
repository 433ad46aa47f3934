use Rattle.pbf_pass.proofs.EachLemmas.{each_stops, each_visits}
use Rattle.pbf_pass.proofs.laws.each_visits_by_itself.Goals as goal

pub returns-clause-all : goal.returns-clause-all
returns-clause-all g c = each_visits g.V.Visit.took

pub returns-clause-stops : goal.returns-clause-stops
returns-clause-stops g c = λ known start end olds news stop. each_stops g.V.Visit.took g.V.Visit.failed stop known _ olds news
