use Rattle.std.proofs.Common.{rules}
use Rattle.pbf_wire.proofs.RisingRuns.{all_below}
use Rattle.pbf_wire.proofs.runs.are_below.Goals as goal

pub returns : goal.returns
returns c = λ t. all_below c.args.bound c.args.lanes c.requires (search rules)
