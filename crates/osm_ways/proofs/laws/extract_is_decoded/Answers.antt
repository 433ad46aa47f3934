use Rattle.osm_entity.specs.Entity.{decoded}
use Rattle.osm_ways.specs.Seen.{seen_entity, seen_decoded}
use Rattle.osm_ways.proofs.Decoding.{seen_alike}
use Rattle.osm_ways.proofs.Extracts.{extract_viewed}
use Rattle.osm_ways.proofs.laws.extract_is_decoded.Goals as goal

pub returns : goal.returns
returns c by area = extract_viewed by decoded (seen_entity by.whole area) (seen_decoded by.whole area) (seen_alike by.whole area)
