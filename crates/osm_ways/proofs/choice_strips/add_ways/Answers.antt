use Rattle.std.proofs.Common.{subst}
use Rattle.osm_ids.specs.Strips.{NamesAll}
use Rattle.osm_ways.specs.Phases.{KeptSets}
use Rattle.osm_ways.proofs.ChoiceStripLemmas.{no_ways}
use Rattle.osm_ways.proofs.choice_strips.add_ways.Goals as goal

pub returns-in_default-clause-added : goal.returns-in_default-clause-added
returns-in_default-clause-added c =
    subst (λ (s : KeptSets). NamesAll c.add_sealed.new.self c.args.number s.added.ways) c.chosen.view_is
    (no_ways c.add_sealed.new.self c.args.number c.chosen.inside.added c.in_default.is)
