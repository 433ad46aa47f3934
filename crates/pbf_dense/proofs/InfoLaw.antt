-- The metadata of written nodes: a DenseInfo that is written has no fault, and is read back.
use Rattle.std.proofs.Common.{◌≡◌, ◌⊎◌, inl, inr, ℕ, suc, ◌%◌, ◌^◌, ◌==◌, ℤ, pos, negsuc, ◌-ℤ◌, Bool, true, false, List, [], ◌∷◌, length, map, drop, Option, Some, None, refl, sym, ap, ap₂, subst, ◌∙◌, arith, ◌<◌, ◌≤◌, ◌&&◌, ◌||◌, ◌++◌}
use Rattle.std.specs.Prelude.{not, slice_get, unwrap_or, neg_ℤ, ◌<ℤ◌}
use Rattle.std.specs.List.{filter_map, cons_option, AllByRecursion, flat_map}
use Rattle.std.specs.Option.{is_some, option_map, option_to_list}
use Rattle.std.proofs.lemmas.Int.{ints}
use Rattle.pbf_wire.specs.Signed.{zigzag, unzigzag, low_sint32, low_i32, sign_extended, IsWithin}
use Rattle.pbf_wire.specs.Sums.{sums, differences, deltas}
use Rattle.pbf_wire.proofs.SumLemmas.{unzigzag_zigzag, sums_of_deltas, low_signs_read, IsSmall, deltas_fit}
use Rattle.pbf_strings.specs.TableOut.{has_text, index_in, table_of}
use Rattle.pbf_strings.proofs.UsedTexts.{text_at_index}
use Rattle.osm_entity.specs.Entity.{MetaSpec}
use Rattle.osm_entity.specs.Ranges.{IfPresent, IsInt32, IsStored, IsUid}
use Rattle.pbf_dense.specs.Info.{InfoSpec, user_text, meta_at, info_rest}
use Rattle.pbf_dense.specs.WrittenDense.{bit_of, info_columns, InAllOrNone, HaveSameFields, dense_info_slots}
use Rattle.pbf_wire.specs.Wire.{kind_of}
use Rattle.pbf_wire.specs.declared.kind.Kind.TheVariants as kind
use Rattle.std.proofs.lemmas.Bool.{ltb-true}
use Rattle.std.proofs.lemmas.List.{append-nil}
use Rattle.pbf_wire.specs.declared.fault.Fault.{Fault}
use Rattle.pbf_wire.specs.declared.fault.Reason.TheVariants.{ColumnLengths}
use Rattle.pbf_wire.specs.Columns.{column}
use Rattle.pbf_wire.specs.Faults.{fault_where, fields_in, leaf_faults, column_count, sum_faults, index_sum_faults, is_index}
use Rattle.pbf_wire.specs.Message.{message, SlotFits, SlotIs, numbers_at}
use Rattle.pbf_wire.proofs.AllLemmas.{all_weaker}
use Rattle.pbf_wire.proofs.MessageLemmas.{column_written}
use Rattle.pbf_wire.proofs.NoFaultLemmas.{leaf_quiet, counted_written, sums_good_written, index_sums_good}
use Rattle.pbf_dense.specs.declared.dense_info.TheConstants.{DENSEINFO_KINDS, VERSION, TIMESTAMP, CHANGESET, UID, USER_SID, VISIBLE}
use Rattle.pbf_dense.specs.Judged.{goes_with, info_counts, dense_info_values}
use Rattle.pbf_dense.proofs.MovingLemmas.{info_of}

-- ---- a field that is in all or in none

none_there : {X : Type 0} (f : MetaSpec → Option X) (metas : List MetaSpec) → AllByRecursion (λ m. is_some (f m) ≡ false) metas → filter_map f metas ≡ []
none_there f [] h = refl
none_there f (m ∷ metas) h = elim (f m) as (λ o. is_some o ≡ false → cons_option o (filter_map f metas) ≡ []) [ None ↦ λ _. none_there f metas h.1 | Some x ↦ λ e. absurd cc ] h.0

all_there : {X : Type 0} (f : MetaSpec → Option X) (metas : List MetaSpec) → AllByRecursion (λ m. is_some (f m) ≡ true) metas → length (filter_map f metas) ≡ length metas
all_there f [] h = refl
all_there f (m ∷ metas) h = elim (f m) as (λ o. is_some o ≡ true → length (cons_option o (filter_map f metas)) ≡ suc (length metas)) [ None ↦ λ e. absurd cc | Some x ↦ λ _. ap suc (all_there f metas h.1) ] h.0

-- its column has nothing, or an entry for each
pub all_or_none : {X : Type 0} (f : MetaSpec → Option X) (metas : List MetaSpec) → InAllOrNone f metas → (length (filter_map f metas) ≡ 0) ⊎ (length (filter_map f metas) ≡ length metas)
all_or_none {X = X} f metas h =
    elim h.0 as (λ b. AllByRecursion (λ m. is_some (f m) ≡ b) metas → (length (filter_map f metas) ≡ 0) ⊎ (length (filter_map f metas) ≡ length metas))
    [ true ↦ λ all. inr (all_there f metas all) | false ↦ λ all. inl (ap (λ (xs : List X). length xs) (none_there f metas all)) ] h.1

pub same_there : {X Y : Type 0} (g : X → Y) (o : Option X) → is_some (option_map g o) ≡ is_some o
same_there g None = refl
same_there g (Some x) = refl

all_mapped : {X Y : Type 0} (f : MetaSpec → Option X) (g : X → Y) (b : Bool) (metas : List MetaSpec) → AllByRecursion (λ m. is_some (f m) ≡ b) metas → AllByRecursion (λ m. is_some (option_map g (f m)) ≡ b) metas
all_mapped f g b [] h = tt
all_mapped f g b (m ∷ metas) h = (same_there g (f m) ∙ h.0, all_mapped f g b metas h.1)

pub mapped : {X Y : Type 0} (f : MetaSpec → Option X) (g : X → Y) (metas : List MetaSpec) → InAllOrNone f metas → InAllOrNone (λ m. option_map g (f m)) metas
mapped f g metas h = (h.0, all_mapped f g h.0 metas h.1)

one_first : {X : Type 0} (o : Option X) (rest : List X) → (is_some o ≡ false → rest ≡ []) → slice_get (cons_option o rest) 0 ≡ o
one_first None rest h = ap (λ xs. slice_get xs 0) (h refl)
one_first (Some x) rest h = refl

one_later : {X : Type 0} (o : Option X) (rest : List X) → (is_some o ≡ false → rest ≡ []) → drop 1 (cons_option o rest) ≡ rest
one_later None rest h = rw (h refl) refl
one_later (Some x) rest h = refl

module _ {X : Type 0} (f : MetaSpec → Option X) (m : MetaSpec) (metas : List MetaSpec) (h : InAllOrNone f (m ∷ metas)) where
  others : is_some (f m) ≡ false → filter_map f metas ≡ []
  others e = none_there f metas (subst (λ b. AllByRecursion (λ m. is_some (f m) ≡ b) metas) (sym h.1.0 ∙ e) h.1.1)

  -- the first entry is the first one's field, and the others come after it
  first_of : slice_get (filter_map f (m ∷ metas)) 0 ≡ f m
  first_of = one_first (f m) (filter_map f metas) others

  later_of : drop 1 (filter_map f (m ∷ metas)) ≡ filter_map f metas
  later_of = one_later (f m) (filter_map f metas) others

pub alike_later : (m : MetaSpec) (metas : List MetaSpec) → HaveSameFields (m ∷ metas) → HaveSameFields metas
alike_later m metas h = record {
  version = (h.version.0, h.version.1.1);
  timestamp = (h.timestamp.0, h.timestamp.1.1);
  changeset = (h.changeset.0, h.changeset.1.1);
  uid = (h.uid.0, h.uid.1.1);
  user = (h.user.0, h.user.1.1);
  visible = (h.visible.0, h.visible.1.1);
}

-- ---- the fields

version_read : (version : Option ℤ) → IfPresent IsInt32 version → option_map low_i32 (option_map sign_extended version) ≡ version
version_read None h = refl
version_read (Some v) h = ap Some (low_signs_read v h.0 h.1)

user_read : (texts : List (List ℕ)) (user : Option (List ℕ)) → AllByRecursion (λ text. has_text texts text ≡ true) (option_to_list user) → option_map (user_text (table_of texts)) (option_map (λ text. pos (index_in texts text)) user) ≡ user
user_read texts None h = refl
user_read texts (Some text) h = ap (λ (t : Option (List ℕ)). Some (unwrap_or t [])) (text_at_index texts text h.0)

visible_read : (visible : Option Bool) → option_map (λ n. not (n == 0)) (option_map bit_of visible) ≡ visible
visible_read (Some true) = refl
visible_read o = refl

-- the metadata of the first node
pub meta_given : (texts : List (List ℕ)) (m : MetaSpec) (metas : List MetaSpec) → HaveSameFields (m ∷ metas) → IfPresent IsInt32 m.version → AllByRecursion (λ text. has_text texts text ≡ true) (option_to_list m.user)
    → meta_at (table_of texts) (info_columns texts (m ∷ metas)) 0 ≡ m
meta_given texts m metas h int named =
    λ i. record {
      version = (ap (option_map low_i32) (first_of (λ m. option_map sign_extended m.version) m metas (mapped (λ m. m.version) sign_extended (m ∷ metas) h.version)) ∙ version_read m.version int) i;
      timestamp = first_of (λ m. m.timestamp) m metas h.timestamp i;
      changeset = first_of (λ m. m.changeset) m metas h.changeset i;
      uid = first_of (λ m. m.uid) m metas h.uid i;
      user = (ap (option_map (user_text (table_of texts))) (first_of (λ m. option_map (λ text. pos (index_in texts text)) m.user) m metas (mapped (λ m. m.user) (λ text. pos (index_in texts text)) (m ∷ metas) h.user)) ∙ user_read texts m.user named) i;
      visible = (ap (option_map (λ n. not (n == 0))) (first_of (λ m. option_map bit_of m.visible) m metas (mapped (λ m. m.visible) bit_of (m ∷ metas) h.visible)) ∙ visible_read m.visible) i;
    }

-- the columns after it
pub info_later : (texts : List (List ℕ)) (m : MetaSpec) (metas : List MetaSpec) → HaveSameFields (m ∷ metas) → info_rest (info_columns texts (m ∷ metas)) ≡ info_columns texts metas
info_later texts m metas h =
    λ i. record {
      versions = later_of (λ m. option_map sign_extended m.version) m metas (mapped (λ m. m.version) sign_extended (m ∷ metas) h.version) i;
      timestamps = later_of (λ m. m.timestamp) m metas h.timestamp i;
      changesets = later_of (λ m. m.changeset) m metas h.changeset i;
      uids = later_of (λ m. m.uid) m metas h.uid i;
      users = later_of (λ m. option_map (λ text. pos (index_in texts text)) m.user) m metas (mapped (λ m. m.user) (λ text. pos (index_in texts text)) (m ∷ metas) h.user) i;
      visible = later_of (λ m. option_map bit_of m.visible) m metas (mapped (λ m. m.visible) bit_of (m ∷ metas) h.visible) i;
    }

-- ---- sums of 32 bits

narrow_read : (a b : ℤ) → IsWithin (pos (2 ^ 30)) a → IsWithin (pos (2 ^ 30)) b → low_sint32 (zigzag (a -ℤ b)) ≡ a -ℤ b
narrow_read a b p q = ap unzigzag (low (a -ℤ b) (omega (arith, ints)) (omega (arith, ints))) ∙ unzigzag_zigzag (a -ℤ b)
  where
    low : (z : ℤ) → neg_ℤ (pos (2 ^ 31)) <ℤ z → z <ℤ pos (2 ^ 31) → zigzag z % 2 ^ 32 ≡ zigzag z
    low (pos n) above below = omega (arith, ints)
    low (negsuc n) above below = omega (arith, ints)

narrow_differences : (start : ℤ) (values : List ℤ) → IsWithin (pos (2 ^ 30)) start → AllByRecursion (IsWithin (pos (2 ^ 30))) values → map low_sint32 (map zigzag (differences start values)) ≡ map unzigzag (map zigzag (differences start values))
narrow_differences start [] p h = refl
narrow_differences start (v ∷ vs) p h = ap₂ (λ (z : ℤ) (zs : List ℤ). z ∷ zs) (narrow_read v start h.0 p ∙ sym (unzigzag_zigzag (v -ℤ start))) (narrow_differences v vs h.0 h.1)

-- the low 32 bits say the differences of values of less than 31 bits
pub narrow_sums : (values : List ℤ) → AllByRecursion (IsWithin (pos (2 ^ 30))) values → sums (map low_sint32 (deltas values)) ≡ values
narrow_sums values h = ap sums (narrow_differences (pos 0) values (record { above = omega (arith, ints); below = omega (arith, ints) }) h) ∙ sums_of_deltas values

-- ---- the columns of a DenseInfo

-- the values are in range, and users are indexes
pub record InfoFits (limit : ℕ) (info : InfoSpec) : Type 0 where
  pub versions : AllByRecursion (λ v. v < 2 ^ 64) info.versions
  pub timestamps : AllByRecursion IsStored info.timestamps
  pub changesets : AllByRecursion IsStored info.changesets
  pub uids : AllByRecursion IsUid info.uids
  pub users : AllByRecursion (λ z. is_index limit z ≡ true) info.users
  pub visible : AllByRecursion (λ v. v < 2 ^ 64) info.visible

-- each column has nothing, or an entry for each node
pub record InfoCounts (n : ℕ) (info : InfoSpec) : Type 0 where
  pub versions : (length info.versions ≡ 0) ⊎ (length info.versions ≡ n)
  pub timestamps : (length info.timestamps ≡ 0) ⊎ (length info.timestamps ≡ n)
  pub changesets : (length info.changesets ≡ 0) ⊎ (length info.changesets ≡ n)
  pub uids : (length info.uids ≡ 0) ⊎ (length info.uids ≡ n)
  pub users : (length info.users ≡ 0) ⊎ (length info.users ≡ n)
  pub visible : (length info.visible ≡ 0) ⊎ (length info.visible ≡ n)

uids_small : (zs : List ℤ) → AllByRecursion IsUid zs → AllByRecursion IsSmall zs
uids_small zs h = all_weaker IsUid IsSmall (λ z u. record { above = omega (arith, ints, u.above); below = omega (arith, ints, u.below) }) zs h

index_narrow : (limit : ℕ) (z : ℤ) → limit ≤ 1048576 → is_index limit z ≡ true → IsUid z
index_narrow limit (pos n) few h = let lt = ltb-true n limit h in record { above = omega (arith, ints); below = omega (arith, ints) }
index_narrow limit (negsuc n) few h = absurd (cc)

indexes_narrow : (limit : ℕ) (zs : List ℤ) → limit ≤ 1048576 → AllByRecursion (λ z. is_index limit z ≡ true) zs → AllByRecursion IsUid zs
indexes_narrow limit zs few h = all_weaker _ IsUid (λ z i. index_narrow limit z few i) zs h

differences_length : (start : ℤ) (values : List ℤ) → length (map zigzag (differences start values)) ≡ length values
differences_length start [] = refl
differences_length start (v ∷ vs) = ap suc (differences_length v vs)

pub deltas_length : (values : List ℤ) → length (deltas values) ≡ length values
deltas_length values = differences_length (pos 0) values

goes : (c n : ℕ) → (c ≡ 0) ⊎ (c ≡ n) → ((c == 0) || (c == n)) ≡ true
goes c n (inl e) = grind arith
goes c n (inr e) = grind arith

six_go : (a b c d e f : Bool) (place : ℕ) → a ≡ true → b ≡ true → c ≡ true → d ≡ true → e ≡ true → f ≡ true → fault_where (not (a && (b && (c && (d && (e && f)))))) place ColumnLengths ≡ []
six_go a b c d e f place p q r s t u = rw (p, q, r, s, t, u) refl

pub no_faults_joined : (xs ys : List Fault) → xs ≡ [] → ys ≡ [] → xs ++ ys ≡ []
no_faults_joined xs ys p q = ap₂ (λ (xs ys : List Fault). xs ++ ys) p q

-- the values of a column of differences are those that it was written of
pub wide_good : (limit : ℤ) (entries : List (ℕ × ℕ)) (values : List ℤ) → map (λ p. p.0) entries ≡ deltas values → AllByRecursion (IsWithin limit) values → sum_faults limit false entries ≡ []
wide_good limit entries values e h =
    sums_good_written limit false entries (subst (λ (zs : List ℤ). AllByRecursion (IsWithin limit) zs) (sym (ap (λ (ns : List ℕ). sums (map unzigzag ns)) e ∙ sums_of_deltas values)) h)

narrow_good : (entries : List (ℕ × ℕ)) (values : List ℤ) → map (λ p. p.0) entries ≡ deltas values → AllByRecursion IsUid values → sum_faults (pos (2 ^ 30)) true entries ≡ []
narrow_good entries values e h =
    sums_good_written (pos (2 ^ 30)) true entries (subst (λ (zs : List ℤ). AllByRecursion IsUid zs) (sym (ap (λ (ns : List ℕ). sums (map low_sint32 ns)) e ∙ narrow_sums values h)) h)

users_good : (limit : ℕ) (entries : List (ℕ × ℕ)) (values : List ℤ) → limit ≤ 1048576 → map (λ p. p.0) entries ≡ deltas values → AllByRecursion (λ z. is_index limit z ≡ true) values → index_sum_faults limit entries ≡ []
users_good limit entries values few e h =
    index_sums_good limit entries (subst (λ (zs : List ℤ). AllByRecursion (λ z. is_index limit z ≡ true) zs) (sym (ap (λ (ns : List ℕ). sums (map low_sint32 ns)) e ∙ narrow_sums values (indexes_narrow limit values few h))) h)

module _ (limit : ℕ) (info : InfoSpec) (h : InfoFits limit info) (few : limit ≤ 1048576) (short : length (message (dense_info_slots info)) < 2 ^ 64) where
  pub info_slots_fit : AllByRecursion SlotFits (dense_info_slots info)
  info_slots_fit = ((omega arith, omega arith, h.versions), ((omega arith, omega arith, deltas_fit info.timestamps h.timestamps), ((omega arith, omega arith, deltas_fit info.changesets h.changesets), ((omega arith, omega arith, deltas_fit info.uids (uids_small info.uids h.uids)), ((omega arith, omega arith, deltas_fit info.users (uids_small info.users (indexes_narrow limit info.users few h.users))), ((omega arith, omega arith, h.visible), tt))))))

  info_slots_are : AllByRecursion (SlotIs DENSEINFO_KINDS) (dense_info_slots info)
  info_slots_are = (refl, (refl, (refl, (refl, (refl, (refl, tt))))))

  pub info_leaf : (place at : ℕ) → leaf_faults DENSEINFO_KINDS place at (message (dense_info_slots info)) ≡ []
  info_leaf place at = leaf_quiet DENSEINFO_KINDS place at (dense_info_slots info) info_slots_are info_slots_fit short

  info_count : (k at : ℕ) → kind_of DENSEINFO_KINDS k ≡ Some kind.Column → column_count k (fields_in at (message (dense_info_slots info))) ≡ length (flat_map (numbers_at k) (dense_info_slots info))
  info_count k at known = counted_written DENSEINFO_KINDS k at (dense_info_slots info) known info_slots_are info_slots_fit short

  column_goes : (n k at : ℕ) (values : List ℕ) → column_count k (fields_in at (message (dense_info_slots info))) ≡ length (values ++ []) → (length values ≡ 0) ⊎ (length values ≡ n) → goes_with n k (fields_in at (message (dense_info_slots info))) ≡ true
  column_goes n k at values e c = rw (e, append-nil values) (goes (length values) n c)

  sums_go : (n k at : ℕ) (values : List ℤ) → column_count k (fields_in at (message (dense_info_slots info))) ≡ length (deltas values ++ []) → (length values ≡ 0) ⊎ (length values ≡ n) → goes_with n k (fields_in at (message (dense_info_slots info))) ≡ true
  sums_go n k at values e c = rw (e, append-nil (deltas values), deltas_length values) (goes (length values) n c)

  pub info_counted : (n place at : ℕ) → InfoCounts n info → info_counts n place at (message (dense_info_slots info)) ≡ []
  info_counted n place at c =
      six_go _ _ _ _ _ _ place
      (column_goes n VERSION at info.versions (info_count VERSION at refl) c.versions)
      (sums_go n TIMESTAMP at info.timestamps (info_count TIMESTAMP at refl) c.timestamps)
      (sums_go n CHANGESET at info.changesets (info_count CHANGESET at refl) c.changesets)
      (sums_go n UID at info.uids (info_count UID at refl) c.uids)
      (sums_go n USER_SID at info.users (info_count USER_SID at refl) c.users)
      (column_goes n VISIBLE at info.visible (info_count VISIBLE at refl) c.visible)

  info_column : (k at : ℕ) → column k (fields_in at (message (dense_info_slots info))) ≡ flat_map (numbers_at k) (dense_info_slots info)
  info_column k at = column_written k at (dense_info_slots info) info_slots_fit short

  pub info_valued : (place at : ℕ) → dense_info_values limit place at (message (dense_info_slots info)) ≡ []
  info_valued place at =
      no_faults_joined _ _ (wide_good (pos (2 ^ 62)) _ info.timestamps (info_column TIMESTAMP at ∙ append-nil _) h.timestamps)
      (no_faults_joined _ _ (wide_good (pos (2 ^ 62)) _ info.changesets (info_column CHANGESET at ∙ append-nil _) h.changesets)
      (no_faults_joined _ _ (narrow_good _ info.uids (info_column UID at ∙ append-nil _) h.uids)
      (users_good limit _ info.users few (info_column USER_SID at ∙ append-nil _) h.users)))

  -- the columns are read back
  pub info_read : (at : ℕ) → info_of (fields_in at (message (dense_info_slots info))) ≡ info
  unfolding info_of
  info_read at =
      λ i. record {
        versions = (info_column VERSION at ∙ append-nil _) i;
        timestamps = (ap (λ (ns : List ℕ). sums (map unzigzag ns)) (info_column TIMESTAMP at ∙ append-nil _) ∙ sums_of_deltas info.timestamps) i;
        changesets = (ap (λ (ns : List ℕ). sums (map unzigzag ns)) (info_column CHANGESET at ∙ append-nil _) ∙ sums_of_deltas info.changesets) i;
        uids = (ap (λ (ns : List ℕ). sums (map low_sint32 ns)) (info_column UID at ∙ append-nil _) ∙ narrow_sums info.uids h.uids) i;
        users = (ap (λ (ns : List ℕ). sums (map low_sint32 ns)) (info_column USER_SID at ∙ append-nil _) ∙ narrow_sums info.users (indexes_narrow limit info.users few h.users)) i;
        visible = (info_column VISIBLE at ∙ append-nil _) i;
      }
