-- Messages whose fields come once each, in the order of their numbers.
use Rattle.std.specs.Prelude.{◌≡◌, ℕ, ◌%◌, ◌<◌, ◌≤◌, List, [], ◌∷◌, Ok}
use Rattle.pbf_wire.specs.Occurrence.{Number, Bytes, Item, items}
use Rattle.pbf_block.specs.declared.plain.PlainWay.{PlainWay}
use Rattle.pbf_block.specs.declared.plain.PlainInfo.{PlainInfo}
use Rattle.pbf_block.specs.declared.entity.TheConstants.{ID, KEYS, VALS, INFO}
use Rattle.pbf_block.specs.declared.way.TheConstants.{REFS}
use Rattle.pbf_dense.specs.declared.dense_info.TheConstants.{VERSION, TIMESTAMP, CHANGESET, UID, USER_SID}

-- a tag of one byte, of a field with this wire type
abbrev pub IsTag : ℕ → ℕ → Type 0
IsTag kind tag = (8 ≤ tag) × (tag < 128) × (tag % 8 ≡ kind)

abbrev pub number_field : (place number value : ℕ) → Item
number_field place number value = Ok (record { place = place; number = number; content = Number value })

abbrev pub bytes_field : (place number at : ℕ) → List ℕ → Item
bytes_field place number at bytes = Ok (record { place = place; number = number; content = Bytes bytes at })

-- a message begins with a number in this field, and goes on with the rest
pub record BeginsWithNumber (at : ℕ) (m : List ℕ) (number value : ℕ) (rest : List ℕ) : Type 0 where
  pub next : ℕ
  pub is : items at m ≡ number_field at number value ∷ items next rest

-- a message begins with these bytes in this field, and goes on with the rest
pub record BeginsWithBytes (at : ℕ) (m : List ℕ) (number : ℕ) (bytes rest : List ℕ) : Type 0 where
  pub held_at : ℕ
  pub next : ℕ
  pub is : items at m ≡ bytes_field at number held_at bytes ∷ items next rest

-- where the fields of a way are, and where the bytes of each begin
pub record IsPlainWay (way : PlainWay) (at : ℕ) (m : List ℕ) : Type 0 where
  pub keys : ℕ
  pub keys_at : ℕ
  pub vals : ℕ
  pub vals_at : ℕ
  pub info : ℕ
  pub info_at : ℕ
  pub refs : ℕ
  pub refs_at : ℕ
  pub is : items at m ≡ number_field at ID way.id ∷ bytes_field keys KEYS keys_at way.keys.now ∷ bytes_field vals VALS vals_at way.vals.now ∷ bytes_field info INFO info_at way.info.now ∷ bytes_field refs REFS refs_at way.refs.now ∷ []

-- where the numbers of an Info are
pub record IsPlainInfo (info : PlainInfo) (at : ℕ) (m : List ℕ) : Type 0 where
  pub timestamp : ℕ
  pub changeset : ℕ
  pub uid : ℕ
  pub user : ℕ
  pub is : items at m ≡ number_field at VERSION info.version ∷ number_field timestamp TIMESTAMP info.timestamp ∷ number_field changeset CHANGESET info.changeset ∷ number_field uid UID info.uid ∷ number_field user USER_SID info.user ∷ []
