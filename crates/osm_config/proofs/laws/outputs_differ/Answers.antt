use Rattle.osm_config.proofs.DistinctOutputs.{distinct_outputs}
use Rattle.osm_config.proofs.laws.outputs_differ.Goals as goal

pub returns : goal.returns
returns c = distinct_outputs
