use Rattle.std.proofs.Common.{◌≡◌, ◌++◌, drop, map}
use Rattle.pbfcut_program.specs.SeveralEnds.{done_of}
use Rattle.pbfcut_program.proofs.several_writing.done_outs.Given as goal

-- what was done of those so far, and of what is left
abbrev pub invariant-loop-output : goal.invariant-loop-output
invariant-loop-output g l = l.dones.items ++ map done_of (drop l.output-index l.outputs) ≡ map done_of l.outputs
