use Rattle.osm_polygon.proofs.RingLemmas.{ring_turned}
use Rattle.osm_polygon.proofs.laws.turned_ring_is_the_same.Goals as goal

pub returns : goal.returns
returns c = ring_turned
