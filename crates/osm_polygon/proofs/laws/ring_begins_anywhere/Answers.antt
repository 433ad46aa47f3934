use Rattle.osm_polygon.proofs.RingLemmas.{ring_begun}
use Rattle.osm_polygon.proofs.laws.ring_begins_anywhere.Goals as goal

pub returns : goal.returns
returns c = ring_begun
