use Rattle.std.proofs.Common.{List, ap, sym, ◌∙◌}
use Rattle.std.specs.List.{flat_map}
use Rattle.std.proofs.lemmas.List.{append-nil}
use Rattle.std.proofs.lemmas.List.Folds.{flat_map-map}
use Rattle.pbf_wire.specs.declared.fault.Fault.{Fault}
use Rattle.pbf_wire.specs.Fields.{occurrence}
use Rattle.pbf_wire.specs.Least.{least}
use Rattle.osm_entity.specs.Entity.{NodeSpec, WaySpec, RelationSpec, EntitySpec, node, way, relation}
use Rattle.pbf_dense.specs.Judged.{dense_weights}
use Rattle.pbf_block.specs.Group.{weight_fault}
use Rattle.pbf_block.specs.PrimitiveBlock.{streaming}
use Rattle.pbf_block.specs.Runs.{node_from, way_from, relation_from, nodes_from, run_entities}
use Rattle.pbf_block.proofs.KindLemmas.{member_of_all}
use Rattle.pbf_block.proofs.group.judge_members.Goals as goal

pub returns-in-Nothing : goal.returns-in-Nothing
returns-in-Nothing c =
    let o = occurrence c.args.field in
    let held = ap run_entities (sym c.in-Nothing.is) ∙ c.run_in.ensures ∙ member_of_all c.all.result streaming c.args.table.now c.args.scale c.all.ensures o in
    ap (λ (es : List EntitySpec). least (flat_map (weight_fault o.place) es)) held

pub returns-in-Node : goal.returns-in-Node
returns-in-Node c =
    let o = occurrence c.args.field in
    let held = ap run_entities (sym c.in-Node.is) ∙ c.run_in.ensures ∙ member_of_all c.all.result streaming c.args.table.now c.args.scale c.all.ensures o in
    c.judge_weight.ensures
    ∙ ap (λ (x : NodeSpec). least (weight_fault o.place (node x))) c.node.ensures
    ∙ ap (λ (faults : List Fault). least faults) (sym (append-nil (weight_fault o.place (node (node_from c.in-Node.unmade)))))
    ∙ ap (λ (es : List EntitySpec). least (flat_map (weight_fault o.place) es)) held

pub returns-in-Way : goal.returns-in-Way
returns-in-Way c =
    let o = occurrence c.args.field in
    let held = ap run_entities (sym c.in-Way.is) ∙ c.run_in.ensures ∙ member_of_all c.all.result streaming c.args.table.now c.args.scale c.all.ensures o in
    c.judge_weight-in-Way.ensures
    ∙ ap (λ (x : WaySpec). least (weight_fault o.place (way x))) c.way.ensures
    ∙ ap (λ (faults : List Fault). least faults) (sym (append-nil (weight_fault o.place (way (way_from c.in-Way.unmade)))))
    ∙ ap (λ (es : List EntitySpec). least (flat_map (weight_fault o.place) es)) held

pub returns-in-Relation : goal.returns-in-Relation
returns-in-Relation c =
    let o = occurrence c.args.field in
    let held = ap run_entities (sym c.in-Relation.is) ∙ c.run_in.ensures ∙ member_of_all c.all.result streaming c.args.table.now c.args.scale c.all.ensures o in
    c.judge_weight-in-Relation.ensures
    ∙ ap (λ (x : RelationSpec). least (weight_fault o.place (relation x))) c.relation.ensures
    ∙ ap (λ (faults : List Fault). least faults) (sym (append-nil (weight_fault o.place (relation (relation_from c.in-Relation.unmade)))))
    ∙ ap (λ (es : List EntitySpec). least (flat_map (weight_fault o.place) es)) held

pub returns-in-Dense : goal.returns-in-Dense
unfolding dense_weights
returns-in-Dense c =
    let o = occurrence c.args.field in
    let held = ap run_entities (sym c.in-Dense.is) ∙ c.run_in.ensures ∙ member_of_all c.all.result streaming c.args.table.now c.args.scale c.all.ensures o in
    c.judge_nodes.ensures
    ∙ ap (λ (ns : List NodeSpec). least (dense_weights o.place ns)) c.nodes.ensures
    ∙ ap (λ (faults : List Fault). least faults) (sym (flat_map-map (weight_fault o.place) node (nodes_from c.in-Dense.unmade)))
    ∙ ap (λ (es : List EntitySpec). least (flat_map (weight_fault o.place) es)) held
