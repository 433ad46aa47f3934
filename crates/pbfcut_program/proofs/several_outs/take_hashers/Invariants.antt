use Rattle.std.proofs.Common.{◌≤◌, length}
use Rattle.std.specs.List.{AllZip}
use Rattle.std.specs.Vec.{vec_capacity}
use Rattle.pbfcut_program.specs.SeveralOuts.{IsUnhashed}
use Rattle.pbfcut_program.proofs.several_outs.take_hashers.Given as goal

abbrev pub invariant-hashing : goal.invariant-hashing
invariant-hashing g l = record {
  outputs : AllZip IsUnhashed l.yielded l.outputs.items;
  room : length l.fn.hashing.items ≤ vec_capacity l.outputs;
}
