use Rattle.std.specs.List.{AllZip}
use Rattle.pbf_header.specs.Header.{header_of}
use Rattle.pbfcut.specs.ChoosingEach.{EndsTaking}
use Rattle.pbfcut.proofs.choosing_each.end_takings.Given as goal

abbrev pub invariant-takings : goal.invariant-takings
invariant-takings g l = let P = g.P.NodeTaker in AllZip (EndsTaking g.A.Area.area P.has_ways P.ended (header_of l.header)) l.yielded l.phases.items
