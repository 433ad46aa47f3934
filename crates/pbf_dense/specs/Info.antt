-- The metadata of a node, and the columns of a DenseInfo.
use Rattle.std.specs.Prelude.{ℕ, ◌^◌, ◌==◌, not, ℤ, pos, negsuc, List, [], map, drop, slice_get}
use Rattle.std.specs.Option.{option_map}
use Rattle.pbf_wire.specs.Occurrence.{Occurrence}
use Rattle.pbf_wire.specs.Columns.{column}
use Rattle.pbf_wire.specs.Signed.{unzigzag, low_sint32, low_i32}
use Rattle.pbf_wire.specs.Sums.{sums, sums_within}
use Rattle.pbf_strings.specs.Texts.{text}
use Rattle.osm_entity.specs.Entity.{MetaSpec}
use Rattle.pbf_dense.specs.declared.dense_info.TheConstants.{VERSION, TIMESTAMP, CHANGESET, UID, USER_SID, VISIBLE}
use Rattle.pbf_wire.specs.declared.limits.TheConstants.{SUM_LIMIT}

-- the text of an index, and the empty text if it is negative
abbrev pub user_text : List (List ℕ) → ℤ → List ℕ
user_text table (pos n) = text table n
user_text table (negsuc n) = []

-- ---- by an index into whole columns

-- the metadata of node i as the fields of a DenseInfo have it: entry i of each column, which an empty column lacks
abbrev pub dense_meta : List (List ℕ) → List Occurrence → ℕ → MetaSpec
dense_meta table os i = record {
  version = option_map low_i32 (slice_get (column VERSION os) i);
  timestamp = slice_get (sums (map unzigzag (column TIMESTAMP os))) i;
  changeset = slice_get (sums (map unzigzag (column CHANGESET os))) i;
  uid = slice_get (sums (map low_sint32 (column UID os))) i;
  user = option_map (user_text table) (slice_get (sums (map low_sint32 (column USER_SID os))) i);
  visible = option_map (λ n. not (n == 0)) (slice_get (column VISIBLE os) i);
}

-- ---- by columns that move together

-- the columns with what their entries mean; a column that is absent is empty
pub record InfoSpec : Type 0 where
  pub versions : List ℕ
  pub timestamps : List ℤ
  pub changesets : List ℤ
  pub uids : List ℤ
  pub users : List ℤ
  pub visible : List ℕ

-- the same of columns: entry i of each
abbrev pub meta_at : List (List ℕ) → InfoSpec → ℕ → MetaSpec
meta_at table info i = record {
  version = option_map low_i32 (slice_get info.versions i);
  timestamp = slice_get info.timestamps i;
  changeset = slice_get info.changesets i;
  uid = slice_get info.uids i;
  user = option_map (user_text table) (slice_get info.users i);
  visible = option_map (λ n. not (n == 0)) (slice_get info.visible i);
}

-- the columns in the occurrences of a DenseInfo, where each column of sums ends at the first that is out of range
unfoldable pub info_along : List Occurrence → InfoSpec
info_along os = record {
  versions = column VERSION os;
  timestamps = sums_within (pos SUM_LIMIT) (pos 0) (map unzigzag (column TIMESTAMP os));
  changesets = sums_within (pos SUM_LIMIT) (pos 0) (map unzigzag (column CHANGESET os));
  uids = sums_within (pos (2 ^ 30)) (pos 0) (map low_sint32 (column UID os));
  users = sums_within (pos SUM_LIMIT) (pos 0) (map low_sint32 (column USER_SID os));
  visible = column VISIBLE os;
}

-- the columns after their first n entries
abbrev pub info_past : ℕ → InfoSpec → InfoSpec
info_past n info = record {
  versions = drop n info.versions;
  timestamps = drop n info.timestamps;
  changesets = drop n info.changesets;
  uids = drop n info.uids;
  users = drop n info.users;
  visible = drop n info.visible;
}

abbrev pub info_rest : InfoSpec → InfoSpec
info_rest info = info_past 1 info
