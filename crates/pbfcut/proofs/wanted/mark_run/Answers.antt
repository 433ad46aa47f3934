use Rattle.std.proofs.Common.{◌≡◌, List, map, rules, subst}
use Rattle.osm_entity.specs.Entity.{EntitySpec, node}
use Rattle.pbf_block.specs.Runs.{run_entities}
use Rattle.pbf_dense.specs.Cursors.{dense_left}
use Rattle.pbfcut.specs.Wanted.{MarksTakers}
use Rattle.pbfcut.proofs.wanted.mark_run.Goals as goal

pub returns-in-Dense : goal.returns-in-Dense
returns-in-Dense c =
    let are : map node (dense_left c.nodes.result) ≡ run_entities c.args.run.now = search rules in
    subst (λ (es : List EntitySpec). MarksTakers c.args.strips.now es c.args.marks.now c.mark_dense.new.marks c.mark_dense.result) are c.mark_dense.ensures
