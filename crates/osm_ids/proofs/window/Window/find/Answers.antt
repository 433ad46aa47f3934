use Rattle.std.proofs.Common.{arith}
use Rattle.osm_ids.specs.Windows.{IsTruePage}
use Rattle.osm_ids.proofs.Sets.{all_set}
use Rattle.osm_ids.proofs.window.Window.find.Goals as goal

pub returns-then-covers-clause-of : goal.returns-then-covers-clause-of
returns-then-covers-clause-of c = grind (arith, all_set (IsTruePage c.args.ids.now) c.args.self.now.pages c.place_for-at.result, c.find-self.ensures.told.known)

pub returns-else-at-self-clause-of : goal.returns-else-at-self-clause-of
returns-else-at-self-clause-of c = grind (arith, all_set (IsTruePage c.args.ids.now) c.args.self.now.pages c.place_for-at.result, c.requires.next, c.find-self.ensures.told.known)
