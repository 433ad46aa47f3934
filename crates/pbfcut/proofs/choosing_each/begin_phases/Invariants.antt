use Rattle.std.proofs.Common.{take}
use Rattle.std.specs.List.{AllZip}
use Rattle.pbfcut.specs.ChoosingEach.{IsFreshTaking}
use Rattle.pbfcut.proofs.choosing_each.begin_phases.Given as goal

abbrev pub invariant-outputs : goal.invariant-outputs
invariant-outputs g l = let P = g.P.NodeTaker in AllZip (IsFreshTaking P.start P.step P.has_ways P.ended) (take l.output-index l.outputs) l.takings.items
