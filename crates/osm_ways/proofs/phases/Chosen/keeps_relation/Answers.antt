use Rattle.std.proofs.Common.{ap, ◌∙◌}
use Rattle.osm_entity.specs.Views.{relation_of}
use Rattle.osm_ways.specs.Seen.{seen_relation}
use Rattle.osm_ways.specs.Phases.{KeptSets, is_chosen}
use Rattle.osm_ways.proofs.phases.Chosen.keeps_relation.Goals as goal

pub returns : goal.returns
returns c = c.keeps_relation.ensures.found ∙ ap (λ (s : KeptSets). is_chosen s (seen_relation (relation_of c.args.relation.now))) c.chooser.ensures
