use Rattle.std.proofs.Common.{◌≡◌, ◌≤◌, ◌++◌, List, length}
use Rattle.std.specs.Vec.{vec_capacity}
use Rattle.pbfcut.specs.declared.carrying.AreaChoice.{AreaChoice}
use Rattle.pbfcut.specs.Several.{AllThree, IsWriterOf}
use Rattle.pbfcut.proofs.writing_each.load.Given as goal

-- those for which a writer was made, and those that are left
abbrev pub invariant-outputs : goal.invariant-outputs
invariant-outputs g l = record {
  writers : (done : List AreaChoice) × (done ++ l.rest ≡ l.choices) × AllThree (IsWriterOf l.pass.number) done l.yielded l.writers.items;
  room : length l.fn.outputs.items ≤ vec_capacity l.writers;
}
