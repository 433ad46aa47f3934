use Rattle.std.specs.List.{AllZip}
use Rattle.pbf_header.specs.Header.{header_of}
use Rattle.pbfcut.specs.ChoosingEach.{EndsTakingAll}
use Rattle.pbfcut.proofs.choosing_parents_each.end_all_takings.Given as goal

abbrev pub invariant-takings : goal.invariant-takings
invariant-takings g l = let P = g.P.NodeTaker in AllZip (EndsTakingAll g.A.Area.area P.start P.step P.has_ways P.ended g.P.RelationTaker.found (header_of l.header)) l.yielded l.phases.items
