use Rattle.std.proofs.Common.{length}
use Rattle.osm_ids.specs.Strips.{StillNames}
use Rattle.osm_ids.proofs.StripLemmas.{NamesBut}
use Rattle.osm_ids.proofs.strips.IdStrips.add_sealed.Given as goal

abbrev pub invariant-ids : goal.invariant-ids
invariant-ids l = record {
  named : NamesBut l.self l.number l.ids l.walk;
  still : StillNames l.fn.self l.self;
}

abbrev pub decreases-ids : goal.decreases-ids
decreases-ids l = length l.walk
