use Rattle.std.proofs.Common.{ap, sym, ◌∙◌}
use Rattle.std.proofs.lemmas.Bool.{eqb-true}
use Rattle.osm_ways.specs.Phases.{KeptSets}
use Rattle.osm_ways.proofs.MemberLemmas.{none_counted}
use Rattle.osm_ways.proofs.members.MemberPhase.has_all_refs.Goals as goal

pub returns : goal.returns
returns c is = sym (ap (λ (sets : KeptSets). sets.added.ways) c.self.view_is) ∙ none_counted _ (sym c.count.ensures ∙ eqb-true _ _ is)
