use Rattle.std.proofs.Common.{◌≡◌, take}
use Rattle.pbfcut.specs.Pick.{picks_of}
use Rattle.pbfcut.specs.Wanted.{listed_entities}
use Rattle.pbfcut.proofs.PackingLemmas.{PackedEach}
use Rattle.pbfcut.proofs.pick.EntityPacker.pack_wanted.Given as goal

-- what is picked of the runs that are gone was packed and counted
abbrev pub invariant-loop-run : goal.invariant-loop-run
invariant-loop-run g l = PackedEach g.D.Drain (picks_of l.initial.self.picker) (listed_entities (take l.run-index l.wanted)) l.initial.self l.self l.initial.packer l.packer
