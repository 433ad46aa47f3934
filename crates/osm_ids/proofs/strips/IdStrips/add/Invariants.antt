use Rattle.osm_ids.specs.Strips.{StillNames}
use Rattle.osm_ids.proofs.StripLemmas.{NamesBut}
use Rattle.osm_ids.proofs.strips.IdStrips.add.Given as goal

abbrev pub invariant-loop-id : goal.invariant-loop-id
invariant-loop-id l = record {
  named : NamesBut l.self l.number l.ids l.id-iterator;
  still : StillNames l.fn.self l.self;
}
