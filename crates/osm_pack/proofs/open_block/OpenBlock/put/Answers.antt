use Rattle.std.proofs.Common.{◌≡◌, ℕ, ◌++◌, ◌∷◌, [], true, subst, ap}
use Rattle.std.specs.Global.{Vec}
use Rattle.osm_pack.specs.Open.{MayAdd}
use Rattle.osm_pack.specs.View.{entity_shown}
use Rattle.pbf_block.specs.WrittenBlock.{is_block}
use Rattle.osm_pack.proofs.OpenLemmas.{way_encoded, relation_encoded, appended}
use Rattle.osm_pack.proofs.open_block.OpenBlock.put.Goals as goal

pub put_node-requires : goal.put_node-requires
put_node-requires g c = subst (λ v. MayAdd c.args.self.now (entity_shown v)) c.in-Node.is c.requires

pub make_way-requires : goal.make_way-requires
make_way-requires g c = subst (λ v. MayAdd c.args.self.now (entity_shown v)) c.in-Way.is c.requires

pub make_relation-requires : goal.make_relation-requires
make_relation-requires g c = subst (λ v. MayAdd c.args.self.now (entity_shown v)) c.in-Relation.is c.requires

pub returns-in_ok-put_node-in-Node : goal.returns-in_ok-put_node-in-Node
returns-in_ok-put_node-in-Node g c = λ es h. rw c.in-Node.is (c.in_ok-put_node-in-Node.ensures es h)

pub returns-in_ok-append_way-in-Way : goal.returns-in_ok-append_way-in-Way
returns-in_ok-append_way-in-Way g c = λ es h.
    let made = c.in_ok-make_way-in-Way.ensures.made in
    let join = subst (λ v. is_block (es ++ entity_shown v ∷ []) ≡ true) c.in-Way.is (c.requires.joins es h) in
    rw c.in-Way.is (
    way_encoded _ _ es _ h (record { likeness = made.likeness; count = made.count; weight = made.weight }) join made.texts made.nodes
    (λ used. appended 3 _ _ _ _ _ (ap (λ (group : Vec ℕ). group.items) made.group) (c.in_ok-make_way-in-Way.ensures.message used) c.in_ok-append_way-in-Way.ensures.written) c.in_ok-append_way-in-Way.ensures.empty
    )

pub returns-in_ok-append_relation-in-Relation : goal.returns-in_ok-append_relation-in-Relation
returns-in_ok-append_relation-in-Relation g c = λ es h.
    let made = c.in_ok-make_relation-in-Relation.ensures.made in
    rw c.in-Relation.is (
    relation_encoded _ _ es _ h (record { likeness = made.likeness; count = made.count; weight = made.weight }) made.texts made.nodes
    (λ used. appended 4 _ _ _ _ _ (ap (λ (group : Vec ℕ). group.items) made.group) (c.in_ok-make_relation-in-Relation.ensures.message used) c.in_ok-append_relation-in-Relation.ensures.written) c.in_ok-append_relation-in-Relation.ensures.empty
    )
