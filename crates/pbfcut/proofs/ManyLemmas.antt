-- Nodes of a dense message that are packed many at a time.
use Rattle.std.proofs.Common.{◌≡◌, ℕ, zero, suc, ◌+◌, ◌-◌, ◌<◌, ◌≤◌, Bool, true, ℤ, List, [], ◌∷◌, ◌++◌, length, map, take, drop, Ok, Err, subst, refl, sym, ap, ◌∙◌, arith, append-nil}
use Rattle.std.specs.Option.{is_some}
use Rattle.std.specs.List.{AllByRecursion, filter, sum_by}
use Rattle.std.proofs.lemmas.List.{length-drop}
use Rattle.std.proofs.lemmas.List.Sums.{sum_by-cons, sum_by-append}
use Rattle.osm_entity.specs.declared.member.MemberKind.TheVariants as kind
use Rattle.osm_entity.specs.declared.scale.Scale.{Scale}
use Rattle.osm_entity.specs.Scale.{ScaleFits}
use Rattle.osm_entity.specs.Entity.{MetaSpec, NodeSpec, EntitySpec, node}
use Rattle.osm_entity.specs.Ranges.{EntityFits}
use Rattle.osm_entity.specs.Weight.{entity_weight}
use Rattle.pbf_dense.specs.declared.dense.Dense.{Dense}
use Rattle.pbf_dense.specs.Info.{InfoSpec, info_rest}
use Rattle.pbf_dense.specs.Runs.{after_run}
use Rattle.pbf_dense.specs.Nodes.{nodes_of_columns}
use Rattle.pbf_dense.specs.Cursors.{dense_left}
use Rattle.pbf_dense.specs.Steady.{IsSteady, NumbersFit}
use Rattle.pbf_block.specs.declared.counts.Counts.{Counts}
use Rattle.pbf_block.specs.Numbers.{nodes_of, ways_of, relations_of, capped, counts_of}
use Rattle.pbf_block.proofs.NumberLemmas.{same_counts}
use Rattle.pbf_frame.specs.Keeps.{KeepsDrain}
use Rattle.pbf_frame.specs.declared.device.Drain as drain
use Rattle.pbf_frame.specs.declared.stop.Stop.{Stop}
use Rattle.pbf_frame.proofs.Passed.{added_same, added_as}
use Rattle.osm_pack.specs.declared.likeness.Likeness.{Likeness}
use Rattle.osm_pack.specs.Likenesses.{likeness_of, IsLikeNode}
use Rattle.osm_pack.specs.Packing.{Packing, Pending, IsPacking, UsesPacker, has_header}
use Rattle.osm_pack.specs.Cuts.{pending_after, written_after}
use Rattle.osm_pack.proofs.CutLemmas.{kept_bounds}
use Rattle.osm_pack.proofs.RunLemmas.{pending_joined, written_joined, pending_more, written_more}
use Rattle.pbf_wire.proofs.AllLemmas.{all_append, all_drop}
use Rattle.pbfcut.specs.declared.picker.Picker.{Picker}
use Rattle.pbfcut.specs.declared.pick.EntityPacker.{EntityPacker}
use Rattle.pbfcut.specs.Pick.{picks_of, picks_id, HasPacked, PacksEach}
use Rattle.pbfcut.specs.Many.{AreEven, AreEvenAfter}
use Rattle.pbfcut.proofs.NodeLemmas.{ArePicked, picked_by_id}
use Rattle.pbfcut.proofs.PickingLemmas.{begins_none, pack_stop}

-- ---- how many are alike

pub none_even : (ns : List NodeSpec) → AreEven 0 ns
none_even ns = record { counted = omega arith; kind = λ some. absurd (omega (arith, some)) }

of_one_scale : (table : List (List ℕ)) (scale : Scale) (ids lats lons : List ℤ) (info : InfoSpec) (keys_vals : List ℕ) → AllByRecursion (λ (n : NodeSpec). n.scale ≡ scale) (nodes_of_columns table scale ids lats lons info keys_vals)
of_one_scale table scale [] lats lons info keys_vals = tt
of_one_scale table scale (id ∷ ids) [] lons info keys_vals = tt
of_one_scale table scale (id ∷ ids) (lat ∷ lats) [] info keys_vals = tt
of_one_scale table scale (id ∷ ids) (lat ∷ lats) (lon ∷ lons) info keys_vals = (refl, of_one_scale table scale ids lats lons (info_rest info) (after_run keys_vals))

one_scale : (dense : Dense) → AllByRecursion (λ (n : NodeSpec). n.scale ≡ dense.scale) (dense_left dense)
unfolding dense_left
one_scale dense = of_one_scale _ _ _ _ _ _ _

-- nodes of one scale and with these fields are alike
record HaveFields (version timestamp changeset uid user visible : Bool) (metas : List MetaSpec) : Type 0 where
  versions : AllByRecursion (λ (m : MetaSpec). is_some m.version ≡ version) metas
  timestamps : AllByRecursion (λ (m : MetaSpec). is_some m.timestamp ≡ timestamp) metas
  changesets : AllByRecursion (λ (m : MetaSpec). is_some m.changeset ≡ changeset) metas
  uids : AllByRecursion (λ (m : MetaSpec). is_some m.uid ≡ uid) metas
  users : AllByRecursion (λ (m : MetaSpec). is_some m.user ≡ user) metas
  visibles : AllByRecursion (λ (m : MetaSpec). is_some m.visible ≡ visible) metas

alike_fields : (scale : Scale) (version timestamp changeset uid user visible : Bool) (ns : List NodeSpec) → AllByRecursion (λ (n : NodeSpec). n.scale ≡ scale) ns → HaveFields version timestamp changeset uid user visible (map (λ n. n.meta) ns)
    → AllByRecursion (λ (n : NodeSpec). likeness_of (node n) ≡ record { kind = kind.Node; scale = scale; fields = record { version = version; timestamp = timestamp; changeset = changeset; uid = uid; user = user; visible = visible } }) ns
alike_fields scale version timestamp changeset uid user visible [] scaled have = tt
alike_fields scale version timestamp changeset uid user visible (n ∷ ns) scaled have = (
  rw (scaled.0, have.versions.0, have.timestamps.0, have.changesets.0, have.uids.0, have.users.0, have.visibles.0) refl,
  alike_fields scale version timestamp changeset uid user visible ns scaled.1 (record {
    versions = have.versions.1;
    timestamps = have.timestamps.1;
    changesets = have.changesets.1;
    uids = have.uids.1;
    users = have.users.1;
    visibles = have.visibles.1;
  }),
)

pub steady_even : (dense : Dense) (count : ℕ) → ScaleFits dense.scale → IsSteady count dense → AreEven count (dense_left dense)
steady_even dense count fits steady =
    let alike = steady.alike in
    record {
      counted = omega (arith, steady.counted);
      kind = λ _. record {
        likeness = _;
        same = alike_fields dense.scale _ _ _ _ _ _ (dense_left dense) (one_scale dense) (record {
          versions = alike.version.1;
          timestamps = alike.timestamp.1;
          changesets = alike.changeset.1;
          uids = alike.uid.1;
          users = alike.user.1;
          visibles = alike.visible.1;
        });
        scaled = fits;
      };
    }

-- the next is taken
pub even_next : (alike less : ℕ) (all ns : List NodeSpec) (n : NodeSpec) → all ≡ n ∷ ns → less ≡ alike - 1 → AreEven alike all → AreEvenAfter n less ns
even_next alike less all ns n is one even = grind arith

-- some after it are
pub even_after : (n : NodeSpec) (alike less count : ℕ) (ns left : List NodeSpec) → left ≡ drop count ns → less ≡ alike - count → AreEvenAfter n alike ns → AreEven less left
even_after n alike less count ns left is fewer even = grind (arith, length-drop count ns, all_drop)

-- those after it are like it
like_it : (n : NodeSpec) (likeness : Likeness) (ns : List NodeSpec) → likeness_of (node n) ≡ likeness → AllByRecursion (λ m. likeness_of (node m) ≡ likeness) ns → AllByRecursion (IsLikeNode n) ns
like_it n likeness [] is same = tt
like_it n likeness (m ∷ ns) is same = (same.0 ∙ sym is, like_it n likeness ns is same.1)

pub alike_after : (n : NodeSpec) (alike : ℕ) (ns : List NodeSpec) → 0 < alike → AreEvenAfter n alike ns → AllByRecursion (IsLikeNode n) ns
alike_after n alike ns some even = let one = even.kind some in like_it n one.likeness ns one.same.0 one.same.1

-- ---- which are picked

pub all_picked : (p : Picker) (ns : List NodeSpec) → ArePicked p true ns → filter (picks_of p) (map node ns) ≡ map node ns
all_picked p [] h = refl
all_picked p (n ∷ ns) h = grind (arith, picked_by_id p n, all_picked p ns h.1)

pub each_picked_id : (p : Picker) (k : ℕ) (ns : List NodeSpec) → ((id : ℤ) → picks_id p id ≡ true) → ArePicked p true (take k ns)
each_picked_id p zero ns every = tt
each_picked_id p (suc k) [] every = tt
each_picked_id p (suc k) (n ∷ ns) every = (every n.id, each_picked_id p k ns every)

-- ---- they fit

light_each : (es : List EntitySpec) (ns : List NodeSpec) → AllByRecursion NumbersFit ns → AllByRecursion (λ n. ScaleFits n.scale) ns → sum_by entity_weight (map node ns) ≤ 12000000 → AllByRecursion EntityFits (map node ns)
light_each es [] numbers scaled light = tt
light_each es (n ∷ ns) numbers scaled light = grind (arith, sum_by-cons entity_weight (node n) (map node ns), light_each es ns numbers.1 scaled.1 (omega (arith, light, (sum_by-cons entity_weight (node n) (map node ns)))))

pub scaled_taken : (k : ℕ) (likeness : Likeness) (ns : List NodeSpec) → ScaleFits likeness.scale → AllByRecursion (λ n. likeness_of (node n) ≡ likeness) ns → AllByRecursion (λ (n : NodeSpec). ScaleFits n.scale) (take k ns)
scaled_taken zero likeness ns fits same = tt
scaled_taken (suc k) likeness [] fits same = tt
scaled_taken (suc k) likeness (n ∷ ns) fits same = (subst (λ (l : Likeness). ScaleFits l.scale) (sym same.0) fits, scaled_taken k likeness ns fits same.1)

module _ {D S H : Type 0} (d : drain.Ghosts D) where
  -- nodes that wait with those that waited are packed
  pub packed_many : (start : D) (done : List EntitySpec) (ns : List NodeSpec) (old new : Packing D S H) → HasPacked d start done old → AllByRecursion NumbersFit ns → AllByRecursion (λ n. ScaleFits n.scale) ns
      → ((es : List EntitySpec) → Pending old es → Pending new (es ++ map node ns)) → new.drain ≡ old.drain → HasPacked d start (done ++ map node ns) new
  packed_many start done ns old new h numbers scaled pending kept =
      let waits = pending (pending_after [] done) h.pending in
      let weight = sum_by-append entity_weight (pending_after [] done) (map node ns) in
      let light = (kept_bounds (pending_after [] done ++ map node ns) waits.block).1 in
      let written : written_after [] done ≡ written_after [] (done ++ map node ns) =
      sym (written_more [] done (map node ns) ∙ (ap (λ (bs : List ℕ). written_after [] done ++ bs) (written_joined (pending_after [] done) (map node ns) waits.block) ∙ append-nil (written_after [] done))) in
      record {
        fits = all_append EntityFits done (map node ns) h.fits (light_each done ns numbers scaled (omega (arith, light, weight)));
        added = added_same d start new.drain (written_after [] done) (written_after [] (done ++ map node ns)) written (added_as d start start old.drain new.drain (written_after [] done) refl (sym kept) h.added);
        pending = subst (λ es. Pending new es) (sym (pending_more [] done (map node ns) ∙ pending_joined (pending_after [] done) (map node ns) waits.block)) waits;
      }

-- ---- their numbers

numbers_many : (ns : List NodeSpec) → (sum_by nodes_of (map node ns) ≡ length ns) × ((sum_by ways_of (map node ns) ≡ 0) × (sum_by relations_of (map node ns) ≡ 0))
numbers_many [] = (refl, (refl, refl))
numbers_many (n ∷ ns) = grind (arith, numbers_many ns, sum_by-cons nodes_of (node n) (map node ns), sum_by-cons ways_of (node n) (map node ns), sum_by-cons relations_of (node n) (map node ns))

counts_many : (done : List EntitySpec) (ns : List NodeSpec) (c now : Counts) → c ≡ counts_of done → now.nodes ≡ capped (c.nodes + length ns) → now.ways ≡ c.ways → now.relations ≡ c.relations → now ≡ counts_of (done ++ map node ns)
counts_many done ns c now is nodes ways relations =
    let were = ap (λ (c : Counts). c.nodes) is in
    let more = numbers_many ns in
    same_counts now (counts_of (done ++ map node ns)) (omega (arith, nodes, were, more.0, sum_by-append nodes_of done (map node ns)))
    (omega (arith, ways, ap (λ (c : Counts). c.ways) is, more.1.0, sum_by-append ways_of done (map node ns))) (omega (arith, relations, ap (λ (c : Counts). c.relations) is, more.1.1, sum_by-append relations_of done (map node ns)))

-- ---- what a call does

module _ {D S H X : Type 0} (d : drain.Ghosts D) where
  -- nodes that are picked, and wait with those that waited
  pub each_many : (ns : List NodeSpec) (before now : EntityPacker) (old new : Packing D S H) (x : X) → ArePicked before.picker true ns → AllByRecursion NumbersFit ns
      → AllByRecursion (λ n. ScaleFits n.scale) ns → ((es : List EntitySpec) → Pending old es → Pending new (es ++ map node ns)) → new.drain ≡ old.drain → has_header new ≡ true → IsPacking new
      → now.counts.nodes ≡ capped (before.counts.nodes + length ns) → (now.counts.ways ≡ before.counts.ways) × (now.counts.relations ≡ before.counts.relations) → (now.picker ≡ before.picker) × (now.number ≡ before.number)
      → PacksEach d (picks_of before.picker) (map node ns) before now old new (Ok x)
  each_many ns before now old new x picked numbers scaled pending kept header going nodes others same =
      let all = sym (all_picked before.picker ns picked) in
      record {
        packed = record {
          packs = record { packed = λ start done h. subst (λ (l : List EntitySpec). HasPacked d start (done ++ l) new) all (packed_many d start done ns old new h numbers scaled pending kept) };
          going = going;
          counted = λ done is. counts_many done ns before.counts now.counts is nodes others.0 others.1 ∙ ap (λ (l : List EntitySpec). counts_of (done ++ l)) all;
        };
        stopped = tt;
        keeps = record { header = header; drain_kept = subst (λ (x : D). KeepsDrain d old.drain x) (sym kept) (record { counts = omega arith; lender = refl }) };
        same = same;
      }

  -- a call that stops before any node is packed
  pub each_refused : (before now : EntityPacker) (old new : Packing D S H) (s : Stop) → IsPacking old → new.drain ≡ old.drain → has_header new ≡ true → UsesPacker {X = ℕ} d old new (Err s)
      → (now.picker ≡ before.picker) × (now.number ≡ before.number) → PacksEach {X = X} d (picks_of before.picker) [] before now old new (Err s)
  each_refused before now old new s going kept header uses same = grind (arith, pack_stop, uses.stops going, begins_none d [] old new (ap d.taken kept))
