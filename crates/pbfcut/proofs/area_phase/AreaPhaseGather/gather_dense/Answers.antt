use Rattle.std.proofs.Common.{map, sym, ap, ◌∙◌}
use Rattle.std.proofs.lemmas.Result.{on_ok_weaker}
use Rattle.osm_entity.specs.Entity.{node}
use Rattle.pbf_dense.specs.Cursors.{dense_left}
use Rattle.pbfcut.proofs.AreaPhaseLemmas.{gathered_all, gathered_none, with_gathering}
use Rattle.pbfcut.proofs.area_phase.AreaPhaseGather.gather_dense.Goals as goal

pub returns-then-self : goal.returns-then-self
returns-then-self g c = sym (gathered_none g.G.Gather.gathered c.args.self.now (map node (dense_left c.args.dense.now)) c.if-self.true)

pub returns : goal.returns
returns g c = on_ok_weaker c.gather_dense.result (λ is. ap (with_gathering c.args.self.now) is ∙ sym (gathered_all g.G.Gather.gathered c.args.self.now (map node (dense_left c.args.dense.now)) c.if-self.false)) c.gather_dense.ensures
