use Rattle.std.specs.List.{AllZip}
use Rattle.pbfcut.specs.ChoosingEach.{IsParentsChoice}
use Rattle.pbfcut.proofs.choosing_parents_each.parents_choices.Given as goal

abbrev pub invariant-phases : goal.invariant-phases
invariant-phases l = AllZip IsParentsChoice l.yielded l.choices.items
