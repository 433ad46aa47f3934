use Rattle.std.specs.List.{AllZip}
use Rattle.pbfcut.specs.ChoosingEach.{IsWaysChoice}
use Rattle.pbfcut.proofs.choosing_each.choices_of.Given as goal

abbrev pub invariant-phases : goal.invariant-phases
invariant-phases l = AllZip IsWaysChoice l.yielded l.choices.items
