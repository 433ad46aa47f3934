use Rattle.std.proofs.Common.{◌≡◌, ◌++◌, [], List, append_assoc, ap, rules, subst, sym, refl, arith, ◌∙◌, length}
use Rattle.std.specs.Global.{Vec}
use Rattle.osm_entity.specs.Entity.{EntitySpec}
use Rattle.pbf_block.specs.declared.runs.Run.{Run}
use Rattle.pbf_block.specs.Runs.{joined_runs, run_entities, runs_left}
use Rattle.pbfcut.specs.Wanted.{WantedLists}
use Rattle.pbfcut.proofs.SeveralLemmas.{all_back}
use Rattle.pbfcut.proofs.WantedLemmas.{wanted_empty}
use Rattle.pbfcut.proofs.wanted.wanted_each.Goals as goal

pub loop-run-init : goal.loop-run-init
loop-run-init c = record {
  can = search rules;
  ends = search rules;
  gone = [];
  split = search rules;
  lists = c.in_ok-lists.ensures.many;
  marks = search rules;
  wanted = wanted_empty c.args.strips.now c.in_ok-lists.lists.items c.in_ok-lists.ensures.empty;
}

pub loop-run-preserved : goal.loop-run-preserved
loop-run-preserved c =
    let so_far = c.loop-run.invariant in
    let es = run_entities c.in-Some.run' in
    let lists = c.loop-run.lists in
    let marks = c.loop-run.marks in
    let now = c.in_ok-more.ensures in
    let lists_kept : length c.list_run.new.lists ≡ length lists.items = now.lists ∙ ap length c.deref_mut.ensures.value in
    let marks_kept : length c.list_run.new.marks ≡ length marks.items = now.marks ∙ ap length c.deref_mut-in-loop-run.ensures.value in
    let lists_back = all_back lists.len lists.items c.list_run.new.lists lists.ok.0 lists_kept in
    let marks_back = all_back marks.len marks.items c.list_run.new.marks marks.ok.0 marks_kept in
    let were : WantedLists c.args.strips.now so_far.gone c.deref_mut.result.now = subst (λ (l : List (Vec Run)). WantedLists c.args.strips.now so_far.gone l) (sym c.deref_mut.ensures.value) so_far.wanted in
    record {
      can = search rules;
      ends = search rules;
      gone = so_far.gone ++ es;
      split = append_assoc so_far.gone es (joined_runs (runs_left c.next.new.self)) ∙ (ap (λ (l : List EntitySpec). so_far.gone ++ l) (sym (ap joined_runs c.in-Some.ensures.steps)) ∙ so_far.split);
      lists = ap length lists_back ∙ (lists_kept ∙ so_far.lists);
      marks = ap length marks_back ∙ (marks_kept ∙ so_far.marks);
      wanted = subst (λ (l : List (Vec Run)). WantedLists c.args.strips.now (so_far.gone ++ es) l) (sym lists_back) (now.wanted so_far.gone were);
    }
