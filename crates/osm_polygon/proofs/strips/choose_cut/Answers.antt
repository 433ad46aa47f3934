use Rattle.std.proofs.Common.{◌≤◌, ◌*◌, length, subst, sym}
use Rattle.osm_polygon.specs.declared.strips.StripRange.{StripRange}
use Rattle.osm_polygon.specs.Strips.{AreWithin, spans_of}
use Rattle.osm_polygon.proofs.StripLemmas.{all_few, within_cut}
use Rattle.osm_polygon.proofs.strips.choose_cut.Goals as goal

pub returns-clause-few : goal.returns-clause-few
returns-clause-few c =
    let edges = c.args.edges.now in
    subst (λ (k : StripRange). spans_of k edges ≤ c.args.times * length edges) (sym c.cut_at.ensures.value) (all_few c.args.axis _ _ c.args.times edges c.ends-first.ensures.small c.requires)

pub returns-clause-within : goal.returns-clause-within
returns-clause-within c =
    let edges = c.args.edges.now in
    subst (λ (k : StripRange). AreWithin c.args.axis k.shift k.first k.end edges) (sym c.cut_at.ensures.value) (within_cut c.args.axis 39 _ _ edges c.ends-first.ensures.within)
