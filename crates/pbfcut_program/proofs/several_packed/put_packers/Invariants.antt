use Rattle.std.proofs.Common.{◌≡◌, ◌≤◌, ◌+◌, length}
use Rattle.std.specs.List.{AllZip}
use Rattle.std.specs.Vec.{vec_capacity, vec_len}
use Rattle.pbfcut_program.specs.SeveralOuts.{IsPackingOver}
use Rattle.pbfcut_program.proofs.several_packed.put_packers.Given as goal

abbrev pub invariant-outputs : goal.invariant-outputs
invariant-outputs g l = record {
  packing : AllZip IsPackingOver l.yielded l.packing.items;
  room : length l.fn.outputs.items ≤ vec_capacity l.packing;
  left : length l.yielded + vec_len l.deflaters ≡ length l.fn.outputs.items;
}
