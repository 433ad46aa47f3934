use Rattle.pbf_frame.proofs.Beginnings.{front_longer, front_then}
use Rattle.pbf_frame.proofs.transfer.write_both.Goals as goal

pub returns-in_err-write_all-clause-front : goal.returns-in_err-write_all-clause-front
returns-in_err-write_all-clause-front g c = front_longer _ _ c.args.first.now c.args.second.now c.write_all.ensures.front

pub returns-clause-front : goal.returns-clause-front
returns-clause-front g c = front_then _ _ _ c.args.first.now c.args.second.now c.in_ok-write_all.ensures.ok.told c.write_all-2.ensures.front
