use Rattle.std.proofs.Common.{[], ◌∷◌, ◌++◌, ◌∙◌, ap, arith, refl, rules}
use Rattle.std.proofs.lemmas.Result.{err_from_is_err_and}
use Rattle.osm_entity.specs.Views.{entity_of}
use Rattle.osm_text.specs.EntityText.{entity_line}
use Rattle.pbf_block.specs.Runs.{entities_left}
use Rattle.pbfcut.proofs.ListingLemmas.{texts_added}
use Rattle.pbfcut.proofs.ShowingLemmas.{keeps_drain, lines_by, stopped_since, entities_more, entities_front}
use Rattle.pbfcut.proofs.showing.LineWriter.write_entities.Goals as goal

pub loop-entity-init : goal.loop-entity-init
loop-entity-init g c = record {
  can = tt;
  ends = tt;
  so_far = ([], ap entities_left c.into_iter-entity-iterator.ensures.into_iter_gives, search rules);
  same = refl;
  keeps = record { counts = omega arith; lender = refl };
}

pub loop-entity-preserved : goal.loop-entity-preserved
loop-entity-preserved g c =
    let now = c.loop-entity.invariant in
    let so_far = now.so_far in
    let e = entity_of c.in-Some.entity in
    let one = lines_by g.D.Drain c.loop-entity.self.dates c.args.self.now.dates e _ _ _ _ _ now.same c.in_ok-write_entity.ensures in
    record {
      can = search rules;
      ends = search rules;
      so_far = (so_far.0 ++ e ∷ [], entities_more so_far.0 _ _ _ e c.in-Some.ensures.steps so_far.1, texts_added g.D.Drain (entity_line c.args.self.now.dates) _ _ _ so_far.0 e so_far.2 one.shown);
      same = one.same ∙ now.same;
      keeps = keeps_drain g.D.Drain _ _ _ now.keeps one.keeps;
    }

pub returns-in_err-write_entity : goal.returns-in_err-write_entity
returns-in_err-write_entity g c =
    let p = err_from_is_err_and c.from_residual.result c.from_residual.ensures.1 in
    let now = c.loop-entity.invariant in
    let so_far = now.so_far in
    let e = entity_of c.in-Some.entity in
    let one = lines_by g.D.Drain c.loop-entity.self.dates c.args.self.now.dates e _ _ _ _ _ now.same c.in_err-write_entity.ensures in
    rw (p.1, p.2) (record {
      shown = tt;
      front = entities_front c.args.self.now.dates so_far.0 _ _ _ e _ _ _ c.in-Some.ensures.steps so_far.1 so_far.2.told one.front;
      stops = stopped_since g.D.Drain _ _ _ _ now.keeps one.stops;
      keeps = keeps_drain g.D.Drain _ _ _ now.keeps one.keeps;
      same = one.same ∙ now.same;
    })
