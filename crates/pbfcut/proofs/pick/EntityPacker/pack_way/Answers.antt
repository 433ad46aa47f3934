use Rattle.std.proofs.Common.{sym, ap, ◌∙◌}
use Rattle.osm_entity.specs.Entity.{way}
use Rattle.pbf_block.specs.Runs.{way_from}
use Rattle.pbfcut.specs.declared.picker.Picker.{Picker}
use Rattle.pbfcut.specs.Pick.{picks_of}
use Rattle.pbfcut.proofs.PackingLemmas.{each_left, each_picked, none_picked}
use Rattle.pbfcut.proofs.pick.EntityPacker.pack_way.Goals as goal

pub returns-then-is_picked : goal.returns-then-is_picked
returns-then-is_picked g c =
    each_picked g.D.Drain (picks_of c.args.self.now.picker) (way (way_from c.args.unmade.now)) c.args.self.now _ _ _ _ _ (ap (λ (p : Picker). record c.args.self.now { picker = p }) c.picks_way-is_picked.ensures.same) (sym c.picks_way-is_picked.ensures.picked ∙ c.if-is_picked.true) c.pack_made.ensures

pub returns-else-is_picked : goal.returns-else-is_picked
returns-else-is_picked g c =
    each_left g.D.Drain (picks_of c.args.self.now.picker) _ c.args.self.now _ _ _ (ap (λ (p : Picker). record c.args.self.now { picker = p }) c.picks_way-is_picked.ensures.same) (sym (none_picked (picks_of c.args.self.now.picker) (way (way_from c.args.unmade.now)) (sym c.picks_way-is_picked.ensures.picked ∙ c.if-is_picked.false))) c.requires.0 c.requires.1
