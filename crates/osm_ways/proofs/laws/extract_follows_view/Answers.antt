use Rattle.osm_ways.proofs.Extracts.{extract_viewed}
use Rattle.osm_ways.proofs.laws.extract_follows_view.Goals as goal

pub returns : goal.returns
returns g c by = extract_viewed by
