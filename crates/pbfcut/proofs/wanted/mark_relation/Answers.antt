use Rattle.std.proofs.Common.{[], ◌∷◌, subst}
use Rattle.osm_entity.specs.Entity.{RelationSpec, relation}
use Rattle.osm_entity.specs.Views.{relation_of}
use Rattle.pbfcut.specs.Wanted.{MarksTakers}
use Rattle.pbfcut.proofs.WantedLemmas.{relation_takers}
use Rattle.pbfcut.proofs.wanted.mark_relation.Goals as goal

pub returns : goal.returns
returns c =
    subst (λ (r : RelationSpec). MarksTakers c.args.strips.now (relation r ∷ []) c.args.marks.now c.mark_relation.new.marks c.mark_relation.result) c.relation.ensures (relation_takers c.args.strips.now (relation_of c.relation.result) c.args.marks.now c.mark_relation.new.marks c.mark_relation.result c.mark_relation.ensures)
