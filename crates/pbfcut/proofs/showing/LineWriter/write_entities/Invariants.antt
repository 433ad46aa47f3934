use Rattle.std.proofs.Common.{◌≡◌, ◌++◌, List}
use Rattle.std.specs.List.{flat_map}
use Rattle.osm_entity.specs.Entity.{EntitySpec}
use Rattle.pbf_block.specs.Runs.{entities_left}
use Rattle.pbf_frame.specs.Transfers.{Added}
use Rattle.osm_text.specs.EntityText.{entity_line}
use Rattle.pbf_frame.specs.Keeps.{KeepsDrain}
use Rattle.pbfcut.proofs.showing.LineWriter.write_entities.Given as goal

-- the lines of the entities that are gone went out
abbrev pub invariant-loop-entity : goal.invariant-loop-entity
invariant-loop-entity g l = record {
  can : (goal.iterator-loop-entity g).can_next l.entity-iterator;
  ends : (goal.iterator-loop-entity g).is_finite l.entity-iterator;
  so_far : (done : List EntitySpec) × (done ++ entities_left l.entity-iterator ≡ entities_left l.fn.entities) × Added g.D.Drain l.initial.drain (flat_map (entity_line l.initial.self.dates) done) l.drain;
  same : l.self.dates ≡ l.initial.self.dates;
  keeps : KeepsDrain g.D.Drain l.initial.drain l.drain;
}
