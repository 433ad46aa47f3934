use Rattle.std.proofs.Common.{◌≡◌, ℕ, ℤ, List, Bool, ◌+◌, ◌≤◌, ◌||◌, length, map, take, sym, ap, subst, ◌∙◌, rules}
use Rattle.pbf_wire.specs.Cursors.{numbers_left, sums_left}
use Rattle.osm_entity.specs.Sources.{low_32}
use Rattle.pbf_strings.specs.TableOut.{texts_after}
use Rattle.pbf_dense.specs.Cursors.{dense_left, info_left}
use Rattle.pbf_dense.specs.NodeTexts.{texts_used, columns_with}
use Rattle.pbf_dense.specs.Info.{InfoSpec}
use Rattle.pbf_dense.specs.WrittenDense.{columns_held, info_held}
use Rattle.pbf_dense.proofs.MovingLemmas.{moving_on}
use Rattle.pbf_dense.proofs.DenseOutLemmas.{first_nodes, used_by, nodes_taken, written_after, rest_is}
use Rattle.pbf_dense.proofs.dense_out.DenseOut.take.Goals.{then-self, else-self}
use Rattle.pbf_dense.proofs.dense_out.DenseOut.take.Goals as goal

pub take-requires : goal.take-requires
unfolding dense_left
take-requires g c =
    let dense = c.args.nodes.now in
    let first = first_nodes dense.table.now dense.scale c.args.count (sums_left dense.ids) (sums_left dense.lats) (sums_left dense.lons) (info_left dense.info) (map low_32 (numbers_left dense.keys_vals)) c.requires.many in
    let used = ap texts_used (sym first.texts) ∙ used_by (take c.args.count (dense_left dense)) in
    subst (λ (ts : List (List ℕ)). length c.args.table.now + length ts ≤ 1048575) (sym used) c.requires.room

pub returns-clause-texts : goal.returns-clause-texts
unfolding dense_left
returns-clause-texts g c =
    let dense = c.args.nodes.now in
    let first = first_nodes dense.table.now dense.scale c.args.count (sums_left dense.ids) (sums_left dense.lats) (sums_left dense.lons) (info_left dense.info) (map low_32 (numbers_left dense.keys_vals)) c.requires.many in
    let used = ap texts_used (sym first.texts) ∙ used_by (take c.args.count (dense_left dense)) in
    c.in_ok-tagged.ensures.taken.texts ∙ ap (texts_after c.args.table.now) used

pub returns-clause-rest : goal.returns-clause-rest
unfolding dense_left
returns-clause-rest g c =
    let dense = c.args.nodes.now in
    let done = c.in_ok-take_numbers.ensures in
    let on = moving_on dense.table.now dense.scale c.args.count (sums_left dense.ids) (sums_left dense.lats) (sums_left dense.lons) (info_left dense.info) (map low_32 (numbers_left dense.keys_vals)) in
    rest_is dense.table.now _ dense.scale _ c.args.count _ _ _ _ _ _ (info_left dense.info) (info_left c.take_numbers.new.nodes.info) _ _ _ (ap (λ t. t.now) done.table) done.scale done.ids_left done.lats_left done.lons_left done.info.left c.in_ok-tagged.ensures.users c.in_ok-tagged.ensures.runs ∙ on

pub returns-clause-taken : goal.returns-clause-taken
unfolding dense_left
returns-clause-taken g c =
    let dense = c.args.nodes.now in
    let out = c.args.self.now in
    let new = c.take_numbers.new.self in
    let first = first_nodes dense.table.now dense.scale c.args.count (sums_left dense.ids) (sums_left dense.lats) (sums_left dense.lons) (info_left dense.info) (map low_32 (numbers_left dense.keys_vals)) c.requires.many in
    let done = c.in_ok-take_numbers.ensures in
    let either : c.if-self.self ≡ (new.tagged || c.in_ok-tagged.tagged) = elim c.if-self.branch [ then-self w ↦ search rules | else-self w ↦ search rules ] in
    let written = written_after _ _ _ out.runs _ new.runs out.info.users _ new.info.users out.tagged _ c.if-self.self c.in_ok-tagged.ensures.taken done.runs done.info.users (either ∙ ap (λ (b : Bool). b || c.in_ok-tagged.tagged) done.tagged) in
    λ ns h. record {
      columns = λ used.
          nodes_taken dense.table.now c.args.count (sums_left dense.ids) (sums_left dense.lats) (sums_left dense.lons) (info_left dense.info) (info_left c.take_numbers.new.nodes.info) (map low_32 (numbers_left dense.keys_vals))
          (take c.args.count (dense_left dense)) ns c.args.table.now c.take.new.table used (columns_held out) new.ids new.lats new.lons _ (info_held new.info) (columns_with new.runs new.info.users c.if-self.self)
          first h.columns written done.info (ap (λ (u : List ℤ). let i : InfoSpec = record (info_held out.info) { users = u } in i) (sym done.info.users)) done.ids done.lats done.lons;
    }
