use Rattle.std.proofs.Common.{◌≡◌, ◌++◌, ◌∙◌, sym, ap, length, take, drop, map, arith, rules}
use Rattle.osm_entity.specs.Entity.{node}
use Rattle.pbf_dense.specs.Cursors.{dense_left}
use Rattle.std.specs.List.{fold}
use Rattle.pbf_pass.specs.Each.{each_gathered}
use Rattle.pbf_pass.specs.Pass.{with_seen_in}
use Rattle.pbf_pass.proofs.EachLemmas.{all_back, fold_each}
use Rattle.pbf_pass.proofs.EachAreaLemmas.{still_all}
use Rattle.pbf_pass.proofs.WayStripLemmas.{find_none}
use Rattle.pbf_pass.proofs.each_area.EachAreaGather.gather_dense.Goals as goal

pub invariant_of-self-2 : goal.invariant_of-self-2
invariant_of-self-2 g c =
    let olds = c.self.inside.members.items in
    let news = c.take_dense_each.new.members in
    let taken : news ≡ map (λ of. fold (with_seen_in g.A.Area.area g.P.NodeTaker.step) of (map node (dense_left c.args.dense.now))) olds = c.in_ok-take_dense_each.ensures ∙ ap (map (λ of. fold (with_seen_in g.A.Area.area g.P.NodeTaker.step) of (map node (dense_left c.args.dense.now)))) c.deref_mut.ensures.value in
    let back : take c.self.inside.members.len (news ++ drop (length news) olds) ≡ news = all_back c.self.inside.members.len olds news (search rules) (search rules) in (
      still_all g.A.Area.area g.P.NodeTaker.step (map node (dense_left c.args.dense.now)) olds (take c.self.inside.members.len (news ++ drop (length news) olds)) c.self.inside.strips c.take-strips.result (back ∙ taken) (search rules) c.self.invariant.0,
      find_none g.P.NodeTaker.step g.P.NodeTaker.inside _ c.drop_made.new.self c.drop_made.ensures,
    )

pub returns : goal.returns
returns g c =
    let step = with_seen_in g.A.Area.area g.P.NodeTaker.step in
    let olds = c.self.inside.members.items in
    let news = c.take_dense_each.new.members in
    let es = (map node (dense_left c.args.dense.now)) in
    let taken : news ≡ map (λ of. fold step of es) olds = c.in_ok-take_dense_each.ensures ∙ ap (map (λ of. fold step of es)) c.deref_mut.ensures.value in
    let back : take c.self.inside.members.len (news ++ drop (length news) olds) ≡ news = all_back c.self.inside.members.len olds news (search rules) (search rules) in
    back ∙ taken ∙ sym (fold_each step olds es) ∙ ap (λ l. fold (each_gathered step) l es) c.self.view_is
