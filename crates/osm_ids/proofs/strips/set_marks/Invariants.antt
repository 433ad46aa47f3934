use Rattle.std.proofs.Common.{length}
use Rattle.osm_ids.specs.Strips.{Marks}
use Rattle.osm_ids.proofs.StripLemmas.{IsPassed}
use Rattle.osm_ids.proofs.strips.set_marks.Given as goal

-- the marks of the numbers so far are set
abbrev pub invariant-numbers : goal.invariant-numbers
invariant-numbers l = Marks (IsPassed l.numbers l.rest) l.fn.marks l.marks

abbrev pub decreases-numbers : goal.decreases-numbers
decreases-numbers l = length l.rest
