use Rattle.std.proofs.Common.{◌≡◌, map}
use Rattle.pbfcut_program.specs.declared.host.Screen.TheVariants.{Output}
use Rattle.pbfcut_program.specs.Events.{then_all}
use Rattle.pbfcut_program.specs.Lines.{prints}
use Rattle.pbfcut_program.specs.SeveralEnds.{outs_lines}
use Rattle.pbfcut_program.proofs.SeveralPrinting.{done_seen}
use Rattle.pbfcut_program.proofs.several_writing.print_outs.Given as goal

-- the lines of those so far are printed
abbrev pub invariant-outs : goal.invariant-outs
invariant-outs g l = g.H.Host.log l.host ≡ then_all (g.H.Host.log l.fn.host) (prints Output (outs_lines (map done_seen l.yielded)))
