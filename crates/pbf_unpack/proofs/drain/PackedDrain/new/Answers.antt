use Rattle.std.proofs.Common.{rules}
use Rattle.pbf_unpack.proofs.PackingLemmas.{raw_start}
use Rattle.pbf_unpack.proofs.drain.PackedDrain.new.Goals as goal

pub returns-clause-taken : goal.returns-clause-taken
returns-clause-taken g c = search (rules, raw_start (g.D.Drain.taken c.args.drain) c.requires)
