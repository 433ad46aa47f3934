use Rattle.std.proofs.Common.{refl}
use Rattle.pbf_unpack.proofs.CauseLemmas.{has_cause}
use Rattle.pbf_unpack.proofs.drain.PackedDrain.stop.Goals as goal

pub returns-in-Failed-clause-cause : goal.returns-in-Failed-clause-cause
returns-in-Failed-clause-cause g c = has_cause c.args.self.now c.args.self.now.below.state refl
