use Rattle.std.proofs.Common.{suc, ◌-◌, length}
use Rattle.osm_ids.specs.Strips.{AlsoLists}
use Rattle.osm_ids.proofs.strips.grow.Given as goal

abbrev pub invariant-strips : goal.invariant-strips
invariant-strips l = AlsoLists l.fn.strips.items l.strips.items

abbrev pub decreases-strips : goal.decreases-strips
decreases-strips l = suc l.index - length l.strips.items
