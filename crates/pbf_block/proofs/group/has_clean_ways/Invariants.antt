use Rattle.std.specs.List.{AllByRecursion}
use Rattle.pbf_wire.specs.Cursors.{fields_left}
use Rattle.pbf_block.specs.Clean.{AreCleanWays, IsCleanMember}
use Rattle.pbf_block.proofs.group.has_clean_ways.Given as goal

-- if what is left is clean, all is
abbrev pub invariant-loop-item : goal.invariant-loop-item
invariant-loop-item l = record {
  can : (goal.iterator-loop-item).can_next l.item-iterator;
  ends : (goal.iterator-loop-item).is_finite l.item-iterator;
  so_far : AllByRecursion (IsCleanMember l.limit) (fields_left l.item-iterator) → AreCleanWays l.limit l.message.at l.message.bytes.now;
}
