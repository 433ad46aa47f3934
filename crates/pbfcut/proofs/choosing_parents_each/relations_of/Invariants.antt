use Rattle.std.specs.List.{AllZip}
use Rattle.pbfcut.specs.ChoosingEach.{IsRelationsOf}
use Rattle.pbfcut.proofs.choosing_parents_each.relations_of.Given as goal

abbrev pub invariant-phases : goal.invariant-phases
invariant-phases l = AllZip IsRelationsOf l.yielded l.later.items
