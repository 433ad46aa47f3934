use Rattle.std.proofs.Common.{◌≡◌, length}
use Rattle.pbf_wire.specs.Cursors.{found_left}
use Rattle.pbf_block.specs.Runs.{group_fields_left}
use Rattle.pbf_block.proofs.members.GroupFieldsIterator.next.Given as goal

abbrev pub invariant-groups : goal.invariant-groups
invariant-groups l = group_fields_left l.self ≡ group_fields_left l.fn.self

abbrev pub decreases-groups : goal.decreases-groups
decreases-groups l = length (found_left l.self.groups)
