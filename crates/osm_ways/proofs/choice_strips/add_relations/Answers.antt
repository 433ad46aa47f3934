use Rattle.std.proofs.Common.{subst}
use Rattle.osm_ids.specs.Strips.{NamesAll}
use Rattle.osm_ways.specs.Phases.{KeptSets}
use Rattle.osm_ways.proofs.ChoiceStripLemmas.{no_relations}
use Rattle.osm_ways.proofs.choice_strips.add_relations.Goals as goal

pub returns-in_default-clause-kept : goal.returns-in_default-clause-kept
returns-in_default-clause-kept c =
    subst (λ (s : KeptSets). NamesAll c.args.strips.now c.args.number s.relation_ids) c.chosen.view_is
    (no_relations c.args.strips.now c.args.number c.chosen.inside.relation_ids c.in_default.is)
