-- How the metadata of nodes is taken over from its columns to others.
use Rattle.std.specs.Prelude.{◌≡◌, ℕ, ◌==◌, not, List, ◌++◌, map, take, drop}
use Rattle.pbf_wire.specs.Signed.{low_i32, sign_extended}
use Rattle.pbf_dense.specs.Info.{InfoSpec, info_past}
use Rattle.pbf_dense.specs.WrittenDense.{bit_of}

-- a version as it is written
abbrev pub written_version : ℕ → ℕ
written_version number = sign_extended (low_i32 number)

-- a flag as it is written
abbrev pub written_flag : ℕ → ℕ
written_flag number = bit_of (not (number == 0))

-- numbers of a column are added to another, each as it is written, until of so many that were to be taken these are left
pub record TakesNumbers (written : ℕ → ℕ) (old new from rest : List ℕ) (count left : ℕ) : Type 0 where
  pub added : new ++ map written (take left rest) ≡ old ++ map written (take count from)
  pub passed : drop left rest ≡ drop count from

-- the entries of so many nodes are taken from columns of metadata, but for their users, and added to others
pub record TakesInfo (count : ℕ) (from rest old new : InfoSpec) : Type 0 where
  pub versions : new.versions ≡ old.versions ++ map written_version (take count from.versions)
  pub timestamps : new.timestamps ≡ old.timestamps ++ take count from.timestamps
  pub changesets : new.changesets ≡ old.changesets ++ take count from.changesets
  pub uids : new.uids ≡ old.uids ++ take count from.uids
  pub users : new.users ≡ old.users
  pub visible : new.visible ≡ old.visible ++ map written_flag (take count from.visible)
  pub left : rest ≡ record (info_past count from) { users = from.users }
