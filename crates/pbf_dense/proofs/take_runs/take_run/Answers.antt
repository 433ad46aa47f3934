use Rattle.std.proofs.Common.{map, ap, sym, ◌∙◌}
use Rattle.pbf_wire.specs.Cursors.{numbers_left}
use Rattle.pbf_strings.specs.Texts.{text}
use Rattle.osm_entity.specs.Entity.{TagSpec}
use Rattle.osm_entity.specs.Sources.{tag_of, run_tags}
use Rattle.pbf_dense.proofs.DenseOutLemmas.{run_step, run_put}
use Rattle.pbf_dense.proofs.TextLemmas.{tag_seen}
use Rattle.pbf_dense.proofs.take_runs.take_run.Goals as goal

pub tags-preserved : goal.tags-preserved
tags-preserved g c =
    let table = c.args.texts.now in
    let tag : TagSpec = (text table c.in-Some.key, text table c.in-Some.value) in
    let is = ap (map (tag_of table)) c.in-Some.ensures.pair in
    record {
      so_far = run_step _ _ _ _ c.index_of.new.table c.index_of-in-Some.new.table _ c.push-in-Some.new.self c.push-in-Some-2.new.self tag _ _ _ _ c.tags.invariant.so_far is c.in_ok-index_of.ensures.texts (c.from.ensures ∙ c.in_ok-index_of.ensures.index) c.in_ok-push-2.ensures.ok
          c.in_ok-index_of-2.ensures.texts (c.from-in-Some.ensures ∙ c.in_ok-index_of-2.ensures.index) c.in_ok-push-3.ensures.ok;
      tagged = tag_seen c.tags.tagged _ (run_tags table (numbers_left c.tags.rest)) (run_tags table (numbers_left c.next_pair.new.numbers)) tag is c.tags.invariant.tagged;
      rest = sym c.in-Some.ensures.rest ∙ c.tags.invariant.rest;
    }

pub returns-clause-runs : goal.returns-clause-runs
returns-clause-runs g c = run_put c.args.table.now _ _ _ _ _ _ c.tags.invariant.so_far (ap (map (tag_of c.args.texts.now)) c.in_default.ensures.pair) c.in_ok-push-4.ensures.ok
