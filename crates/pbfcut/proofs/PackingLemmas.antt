-- Entities of which some are picked and packed, part by part.
use Rattle.std.proofs.Common.{◌≡◌, ℕ, List, [], ◌∷◌, ◌++◌, append_assoc, append-nil, Bool, true, false, subst, refl, sym, ap, ◌∙◌, arith}
use Rattle.std.specs.Prelude.{cond, Result, Ok, Err}
use Rattle.std.proofs.lemmas.List.Elements.{filter-append}
use Rattle.std.specs.List.{AllByRecursion, filter}
use Rattle.osm_entity.specs.Entity.{EntitySpec}
use Rattle.osm_entity.specs.Ranges.{EntityFits}
use Rattle.pbf_block.specs.declared.counts.Counts.{Counts}
use Rattle.pbf_frame.specs.declared.stop.Stop.{Stop}
use Rattle.pbf_frame.specs.declared.stop.Stop.TheVariants as stop
use Rattle.pbf_frame.specs.declared.device.Drain as drain
use Rattle.pbf_frame.specs.Devices.{IsFront}
use Rattle.pbf_frame.specs.Transfers.{Added}
use Rattle.osm_pack.specs.Cuts.{written_entities, then_pending, then_written}
use Rattle.osm_pack.specs.Packing.{Packing, Pending, IsPacking, has_header}
use Rattle.osm_pack.specs.Stops.{IsPackStop}
use Rattle.pbf_pass.specs.Counting.{counts_of, count_one}
use Rattle.pbf_pass.specs.Stops.{Caused, WriteFailed}
use Rattle.pbf_pass.proofs.CountLemmas.{counts_together}
use Rattle.pbfcut.specs.declared.pick.EntityPacker.{EntityPacker}
use Rattle.pbfcut.specs.declared.picker.Picker.{Picker}
use Rattle.pbfcut.specs.Pick.{Pick, everything, picks_of, HasPacked, PacksPicked, StopsAmong, PacksEach, KeepsPacker}
use Rattle.pbfcut.proofs.PickingLemmas.{packed_push, begins_push, begins_none, none_gone, pack_stop}

-- ---- which are picked

pub none_picked : (pick : Pick) (e : EntitySpec) → pick e ≡ false → filter pick [] ≡ filter pick (e ∷ [])
none_picked pick e is = ap (λ (b : Bool). cond b (e ∷ []) []) (sym is)

-- those of a part among all
all_part : (P : EntitySpec → Type 0) (xs ys zs : List EntitySpec) → AllByRecursion P (xs ++ (ys ++ zs)) → AllByRecursion P ys
all_part P [] [] zs all = tt
all_part P [] (y ∷ ys) zs all = (all.0, all_part P [] ys zs all.1)
all_part P (x ∷ xs) ys zs all = all_part P xs ys zs all.1

regrouped : (done xs ys zs rest : List EntitySpec) → ((done ++ xs) ++ ys) ++ (zs ++ rest) ≡ (done ++ (xs ++ (ys ++ zs))) ++ rest
regrouped done xs ys zs rest = simp append_assoc

-- ---- their numbers

count_next : (done : List EntitySpec) (e : EntitySpec) → count_one (counts_of done) e ≡ counts_of (done ++ e ∷ [])
count_next done e = grind (arith, counts_together done (e ∷ []))

module _ {D S H : Type 0} (d : drain.Ghosts D) where
  -- ---- whatever is returned

  pub keeps_same : (packer : Packing D S H) → has_header packer ≡ true → KeepsPacker d packer packer
  keeps_same packer begun = record { header = begun; drain_kept = record { counts = omega arith; lender = refl } }

  pub keeps_more : (a b c : Packing D S H) → KeepsPacker d a b → KeepsPacker d b c → KeepsPacker d a c
  keeps_more a b c k l = grind arith

  -- ---- one entity

  pub packs_one : (e : EntitySpec) (old new : Packing D S H) (before now : Counts) → EntityFits e → ((es : List EntitySpec) → Pending old es → Pending new (then_pending es e))
      → ((es : List EntitySpec) → Pending old es → Added d old.drain (then_written es e) new.drain) → IsPacking new → now ≡ count_one before e → PacksPicked d everything (e ∷ []) old new before now
  packs_one e old new before now fits pending written going counts = record {
    packs = record { packed = λ start done h. packed_push d start done e old new h fits pending written };
    going = going;
    counted = λ done is. counts ∙ (ap (λ (c : Counts). count_one c e) is ∙ count_next done e);
  }

  pub stops_one : (number : ℕ) (e : EntitySpec) (old new : Packing D S H) (s : Stop) → EntityFits e → ((es : List EntitySpec) → Pending old es → IsFront (d.taken old.drain) (d.taken new.drain) (then_written es e))
      → IsPackStop (d.failures old.drain) (d.failures new.drain) s → StopsAmong d number everything (e ∷ []) old new s
  stops_one number e old new s fits front why = record {
    cause = pack_stop _ _ _ _ _ (omega arith) why;
    begins = record {
      begun = λ start done h rest.
          subst (λ (l : List EntitySpec). IsFront (d.taken start) (d.taken new.drain) (written_entities l)) (sym (append_assoc done (e ∷ []) rest)) (begins_push d start done e old new h fits front rest);
    };
  }

  pub unfit_one : (number : ℕ) (e : EntitySpec) (packer : Packing D S H) → (EntityFits e → ⊥) → StopsAmong d number everything (e ∷ []) packer packer (stop.Changed number)
  unfit_one number e packer unfit = grind (arith, begins_none d (e ∷ []) packer packer refl)

  -- ---- parts

  pub packs_none : (pick : Pick) (packer : Packing D S H) (counts : Counts) → IsPacking packer → PacksPicked d pick [] packer packer counts counts
  packs_none pick packer counts going = record {
    packs = record { packed = λ start done h. none_gone d start done packer h };
    going = going;
    counted = λ done is. is ∙ ap counts_of (sym (append-nil done));
  }

  -- of other lists, of which the same are picked
  pub packs_same : (pick other : Pick) (xs ys : List EntitySpec) (a b : Packing D S H) (before now : Counts) → filter pick xs ≡ filter other ys → PacksPicked d pick xs a b before now → PacksPicked d other ys a b before now
  packs_same pick other xs ys a b before now same p = grind arith

  pub packs_more : (pick : Pick) (xs ys : List EntitySpec) (a b c : Packing D S H) (before then now : Counts) → PacksPicked d pick xs a b before then → PacksPicked d pick ys b c then now → PacksPicked d pick (xs ++ ys) a c before now
  packs_more pick xs ys a b c before then now p q = record {
    packs = record {
      packed = λ start done h. subst (λ (l : List EntitySpec). HasPacked d start l c) (joined done) (q.packs.packed start (done ++ filter pick xs) (p.packs.packed start done h));
    };
    going = q.going;
    counted = λ done is. q.counted (done ++ filter pick xs) (p.counted done is) ∙ ap counts_of (joined done);
  } where
    joined : (done : List EntitySpec) → (done ++ filter pick xs) ++ filter pick ys ≡ done ++ filter pick (xs ++ ys)
    joined done = append_assoc done (filter pick xs) (filter pick ys) ∙ ap (λ (l : List EntitySpec). done ++ l) (sym (filter-append pick xs ys))

  -- a stop in one part is a stop in all of them
  pub stops_later : (number : ℕ) (pick : Pick) (xs ys zs all : List EntitySpec) (a b c : Packing D S H) (before now : Counts) (s : Stop) → xs ++ (ys ++ zs) ≡ all
      → PacksPicked d pick xs a b before now → KeepsPacker d a b → StopsAmong d number pick ys b c s → StopsAmong d number pick all a c s
  stops_later number pick xs ys zs all a b c before now s split p keeps stops = record {
    cause = of s stops.cause;
    begins = record {
      begun = λ start done h rest.
          subst (λ (l : List EntitySpec). IsFront (d.taken start) (d.taken c.drain) (written_entities l)) (joined done rest)
          (stops.begins.begun start (done ++ filter pick xs) (p.packs.packed start done h) (filter pick zs ++ rest));
    };
  } where
    picked : filter pick xs ++ (filter pick ys ++ filter pick zs) ≡ filter pick all
    picked = ap (λ (l : List EntitySpec). filter pick xs ++ l) (sym (filter-append pick ys zs)) ∙ (sym (filter-append pick xs (ys ++ zs)) ∙ ap (λ (l : List EntitySpec). filter pick l) split)

    joined : (done rest : List EntitySpec) → ((done ++ filter pick xs) ++ filter pick ys) ++ (filter pick zs ++ rest) ≡ (done ++ filter pick all) ++ rest
    joined done rest = regrouped done (filter pick xs) (filter pick ys) (filter pick zs) rest ∙ ap (λ (l : List EntitySpec). (done ++ l) ++ rest) picked

    fits : AllByRecursion EntityFits all → AllByRecursion EntityFits ys
    fits every = all_part EntityFits xs ys zs (subst (λ (l : List EntitySpec). AllByRecursion EntityFits l) (sym split) every)

    of : (s : Stop) → Caused (λ e. ⊥) ⊥ (WriteFailed d b.drain c.drain) (λ pass. (pass ≡ number) × (AllByRecursion EntityFits ys → ⊥)) s
        → Caused (λ e. ⊥) ⊥ (WriteFailed d a.drain c.drain) (λ pass. (pass ≡ number) × (AllByRecursion EntityFits all → ⊥)) s
    of (stop.Refused e) h = absurd h
    of stop.Read h = h
    of stop.Write h = omega (arith, keeps.drain_kept.counts, h)
    of stop.Memory h = tt
    of (stop.Changed pass) h = (h.0, λ every. h.1 (fits every))

-- ---- what a call does

-- so far, in a loop over such calls
abbrev pub PackedEach : {D S H : Type 0} → drain.Ghosts D → Pick → List EntitySpec → (before now : EntityPacker) → (old new : Packing D S H) → Type 0
PackedEach d pick es before now old new = PacksEach {X = Unit {0}} d pick es before now old new (Ok tt)

module _ {D S H X : Type 0} (d : drain.Ghosts D) where
  -- the same of entities that are equal
  pub each_as : (pick : Pick) (xs ys : List EntitySpec) (a b : EntityPacker) (old new : Packing D S H) (r : Result X Stop) → xs ≡ ys → PacksEach d pick xs a b old new r → PacksEach d pick ys a b old new r
  each_as pick xs ys a b old new r same p = subst (λ (l : List EntitySpec). PacksEach d pick l a b old new r) same p

  -- entities of which none is picked
  pub each_left : (pick : Pick) (es : List EntitySpec) (a b : EntityPacker) (packer : Packing D S H) (x : X) → b ≡ a → filter pick es ≡ [] → has_header packer ≡ true → IsPacking packer → PacksEach d pick es a b packer packer (Ok x)
  each_left pick es a b packer x same none begun going = grind (arith, packs_same d pick pick [] es packer packer a.counts a.counts (sym none) (packs_none d pick packer a.counts going), packs_none d pick packer a.counts going, keeps_same d packer begun)

  -- an entity that is picked
  pub each_picked : (pick : Pick) (e : EntitySpec) (a mid b : EntityPacker) (old new : Packing D S H) (r : Result X Stop) → mid ≡ a → pick e ≡ true → PacksEach d everything (e ∷ []) mid b old new r → PacksEach d pick (e ∷ []) a b old new r
  each_picked pick e a mid b old new r same is one = grind arith

  -- ---- one call after another

  pub each_more : {Y Z : Type 0} (xs ys : List EntitySpec) (a b c : EntityPacker) (old mid new : Packing D S H) (x : X) (y : Y) (z : Z)
      → PacksEach d (picks_of a.picker) xs a b old mid (Ok x) → PacksEach d (picks_of b.picker) ys b c mid new (Ok y) → PacksEach d (picks_of a.picker) (xs ++ ys) a c old new (Ok z)
  each_more xs ys a b c old mid new x y z p then =
      let q = subst (λ (k : Picker). PacksEach d (picks_of k) ys b c mid new (Ok y)) p.same.0 then in
      record {
        packed = packs_more d (picks_of a.picker) xs ys old mid new a.counts b.counts c.counts p.packed q.packed;
        stopped = tt;
        keeps = keeps_more d old mid new p.keeps q.keeps;
        same = (q.same.0 ∙ p.same.0, q.same.1 ∙ p.same.1);
      }

  -- a stop in one part is a stop in all of them
  pub each_later : {Y : Type 0} (xs ys zs all : List EntitySpec) (a b c : EntityPacker) (old mid new : Packing D S H) (x : X) (s : Stop) → xs ++ (ys ++ zs) ≡ all
      → PacksEach d (picks_of a.picker) xs a b old mid (Ok x) → PacksEach {X = Y} d (picks_of b.picker) ys b c mid new (Err s) → PacksEach {X = Y} d (picks_of a.picker) all a c old new (Err s)
  each_later {Y} xs ys zs all a b c old mid new x s split p then =
      let q = subst (λ (k : Picker). PacksEach {X = Y} d (picks_of k) ys b c mid new (Err s)) p.same.0 then in
      let stops = subst (λ (n : ℕ). StopsAmong d n (picks_of a.picker) ys mid new s) p.same.1 q.stopped in
      record {
        packed = tt;
        stopped = stops_later d a.number (picks_of a.picker) xs ys zs all old mid new a.counts b.counts s split p.packed p.keeps stops;
        keeps = keeps_more d old mid new p.keeps q.keeps;
        same = (q.same.0 ∙ p.same.0, q.same.1 ∙ p.same.1);
      }
