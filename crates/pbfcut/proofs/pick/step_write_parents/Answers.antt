use Rattle.std.proofs.Common.{subst}
use Rattle.osm_ways.specs.Phases.{KeptSets}
use Rattle.pbfcut.specs.Pick.{JudgesAndPacks, pick_of, picked_by}
use Rattle.pbfcut.proofs.pick.step_write_parents.Goals as goal

pub returns : goal.returns
unfolding pick_of
returns g c =
    record { steps = subst (λ (sets : KeptSets). JudgesAndPacks g.F.Feed c.args.reader.now c.step_pack.new.reader g.D.Drain (picked_by sets) c.args.packer.now c.step_pack.new.packer c.args.pass.now c.step_pack.new.pass c.step_pack.result) c.chosen.ensures c.step_pack.ensures.steps }
