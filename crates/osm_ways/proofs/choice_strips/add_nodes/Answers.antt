use Rattle.std.proofs.Common.{subst}
use Rattle.osm_ids.specs.Strips.{NamesAll}
use Rattle.osm_ways.specs.Phases.{KeptSets}
use Rattle.osm_ways.proofs.ChoiceStripLemmas.{union_named, no_nodes}
use Rattle.osm_ways.proofs.choice_strips.add_nodes.Goals as goal

pub returns-in_ok-add_sealed-3-clause-kept : goal.returns-in_ok-add_sealed-3-clause-kept
returns-in_ok-add_sealed-3-clause-kept c =
    let number = c.args.number in
    subst (λ (s : KeptSets). NamesAll c.add_sealed-in-Some.new.self number s.ways.node_ids) c.chosen.view_is
    (union_named c.add_sealed-in-Some.new.self number c.chosen.inside.box_ids c.chosen.inside.refs
    (λ id there. c.in_ok-add_sealed-3.ensures.still id number (c.in_ok-add_sealed-2.ensures.still id number (c.in_ok-add_sealed.ensures.named id there)))
    (λ id there. c.in_ok-add_sealed-3.ensures.still id number (c.in_ok-add_sealed-2.ensures.named id there)))

pub returns-in_default-clause-kept : goal.returns-in_default-clause-kept
returns-in_default-clause-kept c =
    let number = c.args.number in
    subst (λ (s : KeptSets). NamesAll c.add_sealed-2.new.self number s.ways.node_ids) c.chosen.view_is
    (union_named c.add_sealed-2.new.self number c.chosen.inside.box_ids c.chosen.inside.refs
    (λ id there. c.in_ok-add_sealed-2.ensures.still id number (c.in_ok-add_sealed.ensures.named id there))
    c.in_ok-add_sealed-2.ensures.named)

pub returns-in_default-clause-added : goal.returns-in_default-clause-added
returns-in_default-clause-added c =
    subst (λ (s : KeptSets). NamesAll c.add_sealed-2.new.self c.args.number s.added.nodes) c.chosen.view_is
    (no_nodes c.add_sealed-2.new.self c.args.number c.chosen.inside.added c.in_default.is)
