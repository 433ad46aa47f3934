use Rattle.std.proofs.Common.{◌≡◌, length, map}
use Rattle.std.specs.String.{string_bytes}
use Rattle.pbfcut_program.specs.Events.{then_all}
use Rattle.pbfcut_program.specs.SeveralFiles.{looks_each}
use Rattle.pbfcut_program.proofs.SeveralFileLemmas.{UpTo}
use Rattle.pbfcut_program.proofs.several_files.refuse_existing_each.Given as goal

-- of all but those that are left none is there
abbrev pub invariant-outs : goal.invariant-outs
invariant-outs g l = UpTo (λ done. g.H.Host.log l.host ≡ then_all (g.H.Host.log l.fn.host) (looks_each l.fn.overwrite (map (λ out. string_bytes out.output) done))) l.fn.outs l.rest

abbrev pub decreases-outs : goal.decreases-outs
decreases-outs g l = length l.rest
