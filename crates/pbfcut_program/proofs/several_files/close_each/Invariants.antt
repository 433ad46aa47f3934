use Rattle.std.proofs.Common.{map}
use Rattle.pbfcut_program.specs.SeveralFiles.{FinishesUnkept, OneByOne}
use Rattle.pbfcut_program.proofs.SeveralFileLemmas.{out_of}
use Rattle.pbfcut_program.proofs.several_files.close_each.Given as goal

abbrev pub invariant-outs : goal.invariant-outs
invariant-outs g l = OneByOne (FinishesUnkept g.H.Out.Drain) (map out_of l.yielded) (g.H.Host.log l.fn.host) (g.H.Host.log l.host)
