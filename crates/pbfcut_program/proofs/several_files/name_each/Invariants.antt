use Rattle.std.proofs.Common.{length}
use Rattle.pbfcut_program.specs.SeveralFiles.{DoesEach, KeepsPart}
use Rattle.pbfcut_program.proofs.SeveralFileLemmas.{UpTo}
use Rattle.pbfcut_program.proofs.several_files.name_each.Given as goal

-- all but those that are left have their names
abbrev pub invariant-parts : goal.invariant-parts
invariant-parts g l = UpTo (λ done. DoesEach (KeepsPart l.fn.placing.program l.fn.placing.overwrite) done (g.H.Host.log l.fn.host) (g.H.Host.log l.host)) l.fn.parts l.rest

abbrev pub decreases-parts : goal.decreases-parts
decreases-parts g l = length l.rest
