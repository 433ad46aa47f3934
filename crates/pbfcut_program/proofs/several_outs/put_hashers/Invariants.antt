use Rattle.std.proofs.Common.{◌≤◌, length}
use Rattle.std.specs.List.{AllZip}
use Rattle.std.specs.Vec.{vec_capacity}
use Rattle.pbfcut_program.specs.SeveralOuts.{IsHashing}
use Rattle.pbfcut_program.proofs.several_outs.put_hashers.Given as goal

abbrev pub invariant-outputs : goal.invariant-outputs
invariant-outputs g l = record {
  hashing : AllZip IsHashing l.yielded l.hashing.items;
  room : length l.fn.outputs.items ≤ vec_capacity l.hashing;
}
