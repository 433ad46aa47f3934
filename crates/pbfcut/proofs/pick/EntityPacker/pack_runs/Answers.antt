use Rattle.std.proofs.Common.{[], ◌++◌, List, append_assoc, ap, refl, rules, sym, ◌∙◌}
use Rattle.std.proofs.lemmas.Result.{err_from_is_err_and}
use Rattle.osm_entity.specs.Entity.{EntitySpec}
use Rattle.pbf_block.specs.Runs.{joined_runs, run_entities, runs_left}
use Rattle.pbfcut.specs.Pick.{picks_of}
use Rattle.pbfcut.proofs.PackingLemmas.{each_left, each_more, each_later}
use Rattle.pbfcut.proofs.pick.EntityPacker.pack_runs.Goals as goal

pub loop-run-init : goal.loop-run-init
loop-run-init g c = record {
  can = search rules;
  ends = search rules;
  gone = [];
  split = search rules;
  each = each_left g.D.Drain (picks_of c.args.self.now.picker) [] c.args.self.now c.args.self.now c.args.packer.now tt refl refl c.requires.0 c.requires.1;
}

pub loop-run-preserved : goal.loop-run-preserved
loop-run-preserved g c =
    let so_far = c.loop-run.invariant in
    let es = run_entities c.in-Some.run' in
    record {
      can = search rules;
      ends = search rules;
      gone = so_far.gone ++ es;
      split = append_assoc so_far.gone es (joined_runs (runs_left c.next.new.self)) ∙ (ap (λ (l : List EntitySpec). so_far.gone ++ l) (sym (ap joined_runs c.in-Some.ensures.steps)) ∙ so_far.split);
      each = each_more g.D.Drain so_far.gone es c.args.self.now c.loop-run.self c.pack_run.new.self c.args.packer.now c.loop-run.packer c.pack_run.new.packer tt _ tt so_far.each c.in_ok-pack_run.ensures;
    }

pub returns-in_err-pack_run : goal.returns-in_err-pack_run
returns-in_err-pack_run g c =
    let p = err_from_is_err_and c.from_residual.result c.from_residual.ensures.1 in
    let so_far = c.loop-run.invariant in
    let es = run_entities c.in-Some.run' in
    let rest = joined_runs (runs_left c.next.new.self) in
    let split = ap (λ (l : List EntitySpec). so_far.gone ++ l) (sym (ap joined_runs c.in-Some.ensures.steps)) ∙ so_far.split in
    rw (p.1, p.2) (each_later g.D.Drain so_far.gone es rest (joined_runs (runs_left c.args.runs)) c.args.self.now c.loop-run.self c.pack_run.new.self c.args.packer.now c.loop-run.packer c.pack_run.new.packer tt _ split so_far.each c.in_err-pack_run.ensures)
