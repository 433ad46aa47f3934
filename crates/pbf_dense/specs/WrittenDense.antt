-- Dense nodes as they are written. Indexes are those in a table that has all texts of the nodes.
use Rattle.osm_entity.specs.declared.scale.Scale.{Scale}
use Rattle.osm_entity.specs.Ranges.{NodeFits, IfPresent, IsInt32}
use Rattle.osm_entity.specs.EntityTexts.{node_texts}
use Rattle.std.specs.Prelude.{◌≡◌, ℕ, ◌+◌, ℤ, pos, Bool, true, false, if◌then◌else◌, List, [], ◌∷◌, ◌++◌, length, map, ◌≤◌, ◌<◌, ◌^◌, Option}
use Rattle.std.specs.List.{flat_map, filter_map, list_any, AllByRecursion}
use Rattle.std.specs.Option.{option_map, is_some}
use Rattle.pbf_wire.specs.Columns.{packed}
use Rattle.pbf_wire.specs.Message.{Slot, Column, Each, message, unless_empty}
use Rattle.pbf_wire.specs.Signed.{sign_extended}
use Rattle.pbf_wire.specs.Sums.{deltas}
use Rattle.pbf_strings.specs.TableOut.{texts_after, index_in, has_text, table_of}
use Rattle.osm_entity.specs.Entity.{TagSpec, MetaSpec, NodeSpec}
use Rattle.pbf_dense.specs.declared.dense_nodes.TheConstants.{ID, DENSEINFO, LAT, LON, KEYS_VALS}
use Rattle.pbf_dense.specs.declared.dense_info.TheConstants.{VERSION, TIMESTAMP, CHANGESET, UID, USER_SID, VISIBLE}
use Rattle.pbf_dense.specs.declared.info_out.InfoOut.{InfoOut}
use Rattle.pbf_dense.specs.declared.dense_out.DenseOut.{DenseOut}
use Rattle.pbf_dense.specs.Info.{InfoSpec}
use Rattle.pbf_strings.specs.declared.table.TheConstants.{MOST_TEXTS}

-- ---- metadata

abbrev pub bit_of : Bool → ℕ
bit_of b = if b then 1 else 0

-- the columns of a DenseInfo: of each field the values that are present
abbrev pub info_columns : List (List ℕ) → List MetaSpec → InfoSpec
info_columns texts metas = record {
  versions = filter_map (λ m. option_map sign_extended m.version) metas;
  timestamps = filter_map (λ m. m.timestamp) metas;
  changesets = filter_map (λ m. m.changeset) metas;
  uids = filter_map (λ m. m.uid) metas;
  users = filter_map (λ m. option_map (λ text. pos (index_in texts text)) m.user) metas;
  visible = filter_map (λ m. option_map bit_of m.visible) metas;
}

abbrev pub dense_info_slots : InfoSpec → List Slot
dense_info_slots info =
    Column VERSION info.versions
    ∷ Column TIMESTAMP (deltas info.timestamps)
    ∷ Column CHANGESET (deltas info.changesets)
    ∷ Column UID (deltas info.uids)
    ∷ Column USER_SID (deltas info.users)
    ∷ Column VISIBLE info.visible
    ∷ []

unfoldable pub dense_info_message : InfoSpec → List ℕ
dense_info_message info = message (dense_info_slots info)

-- ---- tags

abbrev pub tag_numbers : List (List ℕ) → List TagSpec → List ℕ
tag_numbers texts [] = []
tag_numbers texts (tag ∷ tags) = index_in texts tag.0 ∷ index_in texts tag.1 ∷ tag_numbers texts tags

-- the indexes of a node's keys and values in turn, and the 0 that ends them
abbrev pub run_of : List (List ℕ) → List TagSpec → List ℕ
run_of texts tags = tag_numbers texts tags ++ 0 ∷ []

abbrev pub are_some : List TagSpec → Bool
are_some [] = false
are_some (tag ∷ tags) = true

abbrev pub has_tag : NodeSpec → Bool
has_tag n = are_some n.tags

-- ---- nodes

pub record DenseColumns : Type 0 where
  pub ids : List ℤ
  pub lats : List ℤ
  pub lons : List ℤ
  pub info : InfoSpec
  pub runs : List ℕ
  pub tagged : Bool

abbrev pub columns_of : List (List ℕ) → List NodeSpec → DenseColumns
columns_of texts ns = record {
  ids = map (λ n. n.id) ns;
  lats = map (λ n. n.lat) ns;
  lons = map (λ n. n.lon) ns;
  info = info_columns texts (map (λ n. n.meta) ns);
  runs = flat_map (λ n. run_of texts n.tags) ns;
  tagged = list_any has_tag ns;
}

-- a DenseNodes: the runs of tags are left out if no node has a tag
abbrev pub dense_slots : DenseColumns → List Slot
dense_slots columns =
    Column ID (deltas columns.ids)
    ∷ Each DENSEINFO (unless_empty (dense_info_message columns.info))
    ∷ Column LAT (deltas columns.lats)
    ∷ Column LON (deltas columns.lons)
    ∷ Column KEYS_VALS (if columns.tagged then columns.runs else [])
    ∷ []

unfoldable pub dense_message : List (List ℕ) → List NodeSpec → List ℕ
dense_message texts ns = message (dense_slots (columns_of texts ns))

-- ---- the nodes that a dense message can hold

-- a field is in all of them or in none
abbrev pub InAllOrNone : {X : Type 0} → (MetaSpec → Option X) → List MetaSpec → Type 0
InAllOrNone f metas = (there : Bool) × AllByRecursion (λ m. is_some (f m) ≡ there) metas

-- all have the same fields
pub record HaveSameFields (metas : List MetaSpec) : Type 0 where
  pub version : InAllOrNone (λ m. m.version) metas
  pub timestamp : InAllOrNone (λ m. m.timestamp) metas
  pub changeset : InAllOrNone (λ m. m.changeset) metas
  pub uid : InAllOrNone (λ m. m.uid) metas
  pub user : InAllOrNone (λ m. m.user) metas
  pub visible : InAllOrNone (λ m. m.visible) metas

-- they are in range, of one scale and with the same fields of metadata; the table has their texts, and it isn't too long
pub record NodesHeld (texts : List (List ℕ)) (scale : Scale) (ns : List NodeSpec) : Type 0 where
  pub fit : AllByRecursion NodeFits ns
  pub versions : AllByRecursion (λ n. IfPresent IsInt32 n.meta.version) ns
  pub scaled : AllByRecursion (λ n. n.scale ≡ scale) ns
  pub alike : HaveSameFields (map (λ n. n.meta) ns)
  pub named : AllByRecursion (λ text. has_text texts text ≡ true) (flat_map node_texts ns)
  pub few : length (table_of texts) ≤ MOST_TEXTS
  pub short : length (dense_message texts ns) < 2 ^ 64

-- ---- as the code has them

abbrev pub info_held : InfoOut → InfoSpec
info_held out = record {
  versions = out.versions;
  timestamps = out.timestamps;
  changesets = out.changesets;
  uids = out.uids;
  users = out.users;
  visible = out.visible;
}

abbrev pub columns_held : DenseOut → DenseColumns
columns_held out = record {
  ids = out.ids;
  lats = out.lats;
  lons = out.lons;
  info = info_held out.info;
  runs = out.runs;
  tagged = out.tagged;
}

-- the columns are those of these nodes with a table of these texts, whatever texts are used later
pub record HoldsNodes (out : DenseOut) (texts : List (List ℕ)) (ns : List NodeSpec) : Type 0 where
  pub columns : (used : List (List ℕ)) → columns_held out ≡ columns_of (texts_after texts used) ns

-- the lengths of the columns of metadata
abbrev pub info_length : InfoSpec → ℕ
info_length info =
    length (packed info.versions) + length (packed (deltas info.timestamps)) + length (packed (deltas info.changesets))
    + length (packed (deltas info.uids)) + length (packed (deltas info.users)) + length (packed info.visible)

-- the lengths of all columns
abbrev pub dense_length : DenseColumns → ℕ
dense_length columns =
    length (packed (deltas columns.ids)) + length (packed (deltas columns.lats)) + length (packed (deltas columns.lons))
    + info_length columns.info + length (packed columns.runs)
