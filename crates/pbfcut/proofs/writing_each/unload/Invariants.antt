use Rattle.std.proofs.Common.{◌≡◌, ◌≤◌, ◌+◌, length}
use Rattle.std.specs.List.{AllZip}
use Rattle.std.specs.Vec.{vec_capacity}
use Rattle.pbfcut.specs.Several.{IsOutputOf}
use Rattle.pbfcut.proofs.writing_each.unload.Given as goal

abbrev pub invariant-writers : goal.invariant-writers
invariant-writers g l = record {
  outputs : AllZip IsOutputOf l.yielded l.outputs.items;
  room : length l.fn.writers.items ≤ vec_capacity l.outputs;
}
