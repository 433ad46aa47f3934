use Rattle.std.proofs.Common.{◌≤◌, length}
use Rattle.std.specs.Vec.{vec_capacity}
use Rattle.pbfcut_program.specs.SeveralFiles.{MakesEach}
use Rattle.pbfcut_program.proofs.SeveralFileLemmas.{UpTo}
use Rattle.pbfcut_program.proofs.several_files.make_each.Given as goal

-- all but those that are left are made
abbrev pub invariant-outs : goal.invariant-outs
invariant-outs g l = record {
  made : UpTo (λ done. MakesEach g.H.Out.Drain l.fn.placing.program done l.made.parts.items l.made.outputs.items (g.H.Host.log l.fn.host) (g.H.Host.log l.host)) l.fn.outs l.rest;
  outputs_room : length l.fn.outs ≤ vec_capacity l.made.outputs;
  parts_room : length l.fn.outs ≤ vec_capacity l.made.parts;
}

abbrev pub decreases-outs : goal.decreases-outs
decreases-outs g l = length l.rest
