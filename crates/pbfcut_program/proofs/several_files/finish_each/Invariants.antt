use Rattle.std.proofs.Common.{◌≡◌, length, map}
use Rattle.pbfcut_program.specs.SeveralFiles.{FinishesEach}
use Rattle.pbfcut_program.proofs.SeveralFileLemmas.{out_of}
use Rattle.pbfcut_program.proofs.several_files.finish_each.Given as goal

abbrev pub invariant-outs : goal.invariant-outs
invariant-outs g l = FinishesEach g.H.Out.Drain l.result (map out_of l.yielded) (g.H.Host.log l.fn.host) (g.H.Host.log l.host) × (l.at ≡ length l.yielded)
