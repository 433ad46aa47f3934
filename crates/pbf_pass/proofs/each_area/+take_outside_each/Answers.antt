use Rattle.std.proofs.Common.{rules}
use Rattle.pbf_pass.proofs.EachAreaLemmas.{ready_outside}
use Rattle.pbf_pass.proofs.each_area.+take_outside_each.Goals as goal

pub returns-clause-ready : goal.returns-clause-ready
returns-clause-ready g t c =
    let old = c.in-Some.first.now in
    (ready_outside g.A.Area.area g.P.NodeTaker.step c.take_outside.ensures.alike old (record old { phase = c.take_outside.new.self }) c.take_outside.ensures.taken, c.take_outside_each.ensures.ready)
