use Rattle.std.proofs.Common.{◌≤◌, length}
use Rattle.std.specs.Vec.{vec_capacity}
use Rattle.pbfcut_program.specs.SeveralOuts.{AreUnpacked}
use Rattle.pbfcut_program.proofs.several_packed.take_packers.Given as goal

abbrev pub invariant-packing : goal.invariant-packing
invariant-packing g l = record {
  outputs : AreUnpacked l.yielded l.fn.returned l.result l.outputs.items;
  room : length l.fn.packing.items ≤ vec_capacity l.outputs;
}
