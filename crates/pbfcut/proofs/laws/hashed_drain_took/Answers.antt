use Rattle.std.proofs.Common.{zero, suc, [], refl}
use Rattle.pbf_frame.proofs.Passed.{added_as}
use Rattle.pbfcut.proofs.laws.hashed_drain_took.Goals as goal

pub returns : goal.returns
returns g c old fresh new digest written same begun tells added = (
  added_as g.D.Drain fresh.drain old new.drain new.drain written same refl record {
    told = added.told;
    logged = λ log. added.logged (suc log);
  },
  tells written (added.logged zero [] begun),
)
