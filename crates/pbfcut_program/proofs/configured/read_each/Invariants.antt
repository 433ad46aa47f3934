use Rattle.std.proofs.Common.{length}
use Rattle.pbfcut_program.proofs.ConfiguredLemmas.{HasRead}
use Rattle.pbfcut_program.proofs.configured.read_each.Given as goal

-- all but those that are left were read
abbrev pub invariant-extracts : goal.invariant-extracts
invariant-extracts g l = HasRead (g.H.Host.log l.fn.host) (g.H.Host.log l.host) l.fn.extracts l.rest l.outs.items

abbrev pub decreases-extracts : goal.decreases-extracts
decreases-extracts g l = length l.rest
