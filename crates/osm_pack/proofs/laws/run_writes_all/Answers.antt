use Rattle.std.proofs.Common.{[]}
use Rattle.osm_pack.proofs.CutLemmas.{kept_none}
use Rattle.osm_pack.proofs.RunLemmas.{run_keeps, run_ends}
use Rattle.osm_pack.proofs.laws.run_writes_all.Goals as goal

pub returns : goal.returns
returns c = record { ends = run_ends; begins = λ es rest. run_keeps [] es rest kept_none }
