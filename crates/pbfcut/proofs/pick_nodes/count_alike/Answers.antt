use Rattle.std.proofs.Common.{subst}
use Rattle.osm_entity.specs.declared.scale.Scale.{Scale}
use Rattle.osm_entity.specs.Scale.{ScaleFits}
use Rattle.pbf_dense.specs.Cursors.{dense_left}
use Rattle.pbfcut.proofs.ManyLemmas.{steady_even, none_even}
use Rattle.pbfcut.proofs.pick_nodes.count_alike.Goals as goal

pub returns-then-not-fits : goal.returns-then-not-fits
returns-then-not-fits c = none_even (dense_left c.args.dense.now)

pub returns-in_default : goal.returns-in_default
returns-in_default c = none_even (dense_left c.args.dense.now)

pub returns : goal.returns
returns c = steady_even c.args.dense.now _ (subst (λ (s : Scale). ScaleFits s) c.scale.ensures (c.fits.ensures.0 c.if-not-fits.false)) c.in-Some.ensures
