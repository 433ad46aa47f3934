use Rattle.std.proofs.Common.{◌≡◌, ℕ, List, ◌++◌, ◌||◌, ◌-◌, ◌+◌, ◌≤◌, length, map, drop, refl, sym, ap, subst, ◌∙◌, rules, arith}
use Rattle.std.specs.Prelude.{slice_get}
use Rattle.std.specs.Option.{option_map, option_to_list}
use Rattle.pbf_wire.specs.Cursors.{numbers_left, sums_left}
use Rattle.pbf_strings.specs.TableOut.{texts_after}
use Rattle.osm_entity.specs.EntityTexts.{tag_texts}
use Rattle.osm_entity.specs.Sources.{low_32}
use Rattle.pbf_dense.specs.Info.{user_text}
use Rattle.pbf_dense.specs.NodeTexts.{user_index, columns_with, IsKnown}
use Rattle.pbf_dense.specs.Runs.{after_runs}
use Rattle.pbf_dense.specs.WrittenDense.{are_some}
use Rattle.pbf_dense.proofs.MovingLemmas.{one_run}
use Rattle.pbf_dense.proofs.TextLemmas.{first_texts, one_along, none_along, one_passed, known_later, room_for_tags, room_for_user, node_taken, all_taken}
use Rattle.pbf_dense.proofs.take_texts.TextSource.take.Goals.{then-tagged, else-tagged}
use Rattle.pbf_dense.proofs.take_texts.TextSource.take.Goals as goal

pub take_run-requires : goal.take_run-requires
take_run-requires g c =
    let table = c.args.self.now.texts.now in
    let users = sums_left c.nodes.all_users in
    let keys_vals = map low_32 (numbers_left c.nodes.keys_vals) in
    room_for_tags _ _ _ _ _ _ _ (first_texts table users keys_vals) c.nodes.invariant.so_far (one_along table c.nodes.left users _ keys_vals _ c.nodes-test.true refl refl)

pub take_next-requires-clause-room : goal.take_next-requires-clause-room
take_next-requires-clause-room g c =
    let table = c.args.self.now.texts.now in
    let users = sums_left c.nodes.all_users in
    let keys_vals = map low_32 (numbers_left c.nodes.keys_vals) in
    let room = room_for_user _ _ _ _ c.take_run.new.table _ _ _ (first_texts table users keys_vals) c.nodes.invariant.so_far (one_along table c.nodes.left users _ keys_vals _ c.nodes-test.true refl refl) c.in_ok-has_tag.ensures.texts in
    subst (λ (t : List (List ℕ)). length c.take_run.new.table + length (option_to_list (option_map (user_text t) (slice_get users 0))) ≤ 1048575) (sym (ap (λ t. t.now) c.nodes.invariant.same)) room

pub take_next-requires-clause-known : goal.take_next-requires-clause-known
take_next-requires-clause-known g c =
    let n = first_texts c.args.self.now.texts.now (sums_left c.nodes.all_users) (map low_32 (numbers_left c.nodes.keys_vals)) in
    let later = known_later c.args.self.now.texts.now c.nodes.table (tag_texts n.tags) c.take_run.new.table c.nodes.indexes.user c.nodes.indexes.index c.nodes.invariant.known c.in_ok-has_tag.ensures.texts in
    subst (λ (t : List (List ℕ)). IsKnown t c.take_run.new.table c.nodes.indexes.user c.nodes.indexes.index) (sym (ap (λ t. t.now) c.nodes.invariant.same)) later

pub nodes-preserved : goal.nodes-preserved
nodes-preserved g c =
    let table = c.args.self.now.texts.now in
    let users = sums_left c.nodes.all_users in
    let keys_vals = map low_32 (numbers_left c.nodes.keys_vals) in
    let n = first_texts table users keys_vals in
    let texts : c.nodes.indexes.texts.now ≡ table = ap (λ t. t.now) c.nodes.invariant.same in
    let new = c.take_next.new in
    let is = one_along table c.nodes.left users (sums_left new.users) keys_vals (map low_32 (numbers_left c.take_run.new.numbers)) c.nodes-test.true c.in_ok-take_next.ensures.rest c.in_ok-has_tag.ensures.rest in
    let later = subst (λ (t : List (List ℕ)). new.table ≡ texts_after c.take_run.new.table (option_to_list (option_map (user_text t) (slice_get users 0)))) texts c.in_ok-take_next.ensures.texts in
    let added = subst (λ (t : List (List ℕ)). (used : List (List ℕ)) → new.column ≡ c.nodes.users ++ option_to_list (user_index (texts_after new.table used) (option_map (user_text t) (slice_get users 0)))) texts c.in_ok-take_next.ensures.added in
    let tagged : c.if-tagged.tagged ≡ (c.nodes.tagged || are_some n.tags) = elim c.if-tagged.branch [ then-tagged w ↦ search rules | else-tagged w ↦ search rules ] in
    record {
      same = c.in_ok-take_next.ensures.same ∙ c.nodes.invariant.same;
      known = subst (λ (t : List (List ℕ)). IsKnown t new.table new.self.user new.self.index) texts c.in_ok-take_next.ensures.known;
      so_far = node_taken _ _ _ c.nodes.table c.take_run.new.table new.table _ (columns_with c.take_run.new.runs new.column c.if-tagged.tagged) _ _ n c.nodes.invariant.so_far is c.in_ok-has_tag.ensures.texts later c.in_ok-has_tag.ensures.runs added tagged;
      runs = ap (after_runs (c.nodes.left - 1)) c.in_ok-has_tag.ensures.rest ∙ one_run c.nodes.left keys_vals c.nodes-test.true ∙ c.nodes.invariant.runs;
      users = ap (drop (c.nodes.left - 1)) c.in_ok-take_next.ensures.rest ∙ one_passed c.nodes.left users c.nodes-test.true ∙ c.nodes.invariant.users;
    }

pub returns-clause-taken : goal.returns-clause-taken
returns-clause-taken g c =
    let none : c.nodes.left ≡ 0 = omega (arith, c.nodes-test.false) in
    all_taken _ _ _ _ _ _ c.nodes.invariant.so_far (none_along c.args.self.now.texts.now c.nodes.left (sums_left c.nodes.all_users) (map low_32 (numbers_left c.nodes.keys_vals)) none)
