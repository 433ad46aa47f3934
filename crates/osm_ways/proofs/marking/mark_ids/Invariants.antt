use Rattle.std.proofs.Common.{length}
use Rattle.osm_entity.specs.Sources.{refs_left}
use Rattle.osm_ids.specs.Strips.{MarksNamed}
use Rattle.osm_ways.proofs.MarkingLemmas.{IsPassed, is_named}
use Rattle.osm_ways.proofs.marking.mark_ids.Given as goal

-- the sets are marked that are named for the ids so far
abbrev pub invariant-ids : goal.invariant-ids
invariant-ids l = MarksNamed (IsPassed (is_named l.strips) (refs_left l.ids) (refs_left l.rest)) l.fn.marks l.marks l.some

abbrev pub decreases-ids : goal.decreases-ids
decreases-ids l = length (refs_left l.rest)
