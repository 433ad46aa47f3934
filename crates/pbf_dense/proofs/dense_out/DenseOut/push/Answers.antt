use Rattle.std.proofs.Common.{rules, w64, to_z, of_z, ◌∙◌}
use Rattle.osm_entity.specs.Views.{node_of}
use Rattle.std.proofs.lemmas.Int.{to_z-of_z}
use Rattle.pbf_dense.specs.WrittenDense.{columns_held}
use Rattle.pbf_dense.proofs.DenseOutLemmas.{node_room, node_used, node_pushed}
use Rattle.pbf_dense.proofs.dense_out.DenseOut.push.Goals as goal
use Rattle.pbf_dense.proofs.dense_out.DenseOut.push.Goals.{then-self, else-self}

pub index_if_some-requires : goal.index_if_some-requires
index_if_some-requires g c = node_room c.args.table.now c.push_tags.new.table (node_of c.args.node.now) c.in_ok-push_tags.ensures.texts c.requires.room

pub returns-clause-texts : goal.returns-clause-texts
returns-clause-texts g c = node_used c.args.table.now c.push_tags.new.table c.index_if_some.new.self (node_of c.args.node.now) c.in_ok-push_tags.ensures.texts c.in_ok-user.ensures.texts

pub returns-clause-pushed : goal.returns-clause-pushed
returns-clause-pushed g c = λ ns h. record {
  columns = λ used.
      node_pushed c.args.table.now c.push_tags.new.table c.index_if_some.new.self used ns (node_of c.args.node.now) (columns_held c.args.self.now) _ c.in_ok-user.user
      (to_z w64 (of_z w64 c.id.result)) (to_z w64 (of_z w64 c.lat.result)) (to_z w64 (of_z w64 c.lon.result))
      (to_z-of_z w64 c.id.result (search rules) ∙ c.id.ensures) (to_z-of_z w64 c.lat.result (search rules) ∙ c.lat.ensures) (to_z-of_z w64 c.lon.result (search rules) ∙ c.lon.ensures) c.in_ok-push_tags.ensures.texts c.in_ok-user.ensures.texts
      h.columns c.in_ok-push_tags.ensures.runs c.in_ok-user.ensures.index c.in_ok-push-2.ensures.ok c.in_ok-push-3.ensures.ok c.in_ok-push-4.ensures.ok
      c.in_ok-push.ensures.versions c.in_ok-push.ensures.timestamps c.in_ok-push.ensures.changesets c.in_ok-push.ensures.uids c.in_ok-push.ensures.users c.in_ok-push.ensures.visible (elim c.if-self.branch [ then-self w ↦ search rules | else-self w ↦ search rules ]);
}
