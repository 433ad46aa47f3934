-- Messages in which the phases before the weights find no fault, so that one walk can judge them for all of these phases.
use Rattle.std.specs.Prelude.{◌≡◌, ℕ, List, [], ◌++◌, length, None, Ok, Err}
use Rattle.std.specs.List.{AllByRecursion}
use Rattle.pbf_wire.specs.declared.fault.Fault.{Fault}
use Rattle.pbf_wire.specs.Columns.{entries, entry_fault, placed, read_entries}
use Rattle.pbf_wire.specs.Faults.{index_faults, nested_faults}
use Rattle.pbf_wire.specs.Occurrence.{Content, Bytes, Occurrence, Item, items}
use Rattle.pbf_block.specs.declared.entity.TheConstants.{INFO}
use Rattle.pbf_block.specs.declared.group.TheConstants.{WAYS}
use Rattle.pbf_block.specs.declared.info.TheConstants.{INFO_KINDS}
use Rattle.pbf_block.specs.declared.way.TheConstants.{WAY_KINDS}
use Rattle.pbf_block.specs.Group.{in_group, member_values}
use Rattle.pbf_block.specs.PrimitiveBlock.{part_wire, part_structure, structure_faults, value_faults, wire_faults}
use Rattle.pbf_block.specs.Way.{way_structure, way_values}

-- a packed column of so many numbers, each of which names a text of a table with as many texts as the limit
pub record NamesTexts (limit count : ℕ) (packed : List ℕ) : Type 0 where
  pub whole : entry_fault (entries packed) ≡ None
  pub counted : count ≡ length (read_entries (entries packed))
  pub named : (place : ℕ) → index_faults limit (placed place (read_entries (entries packed)) ++ []) ≡ []

-- keys and values of tags
pub record AreTags (limit : ℕ) (keys vals : List ℕ) : Type 0 where
  pub count : ℕ
  pub keys_named : NamesTexts limit count keys
  pub vals_named : NamesTexts limit count vals

-- a way whose field is at this place
pub record IsCleanWay (limit place at : ℕ) (m : List ℕ) : Type 0 where
  pub form : nested_faults WAY_KINDS INFO INFO_KINDS 0 at m ≡ []
  pub structure : way_structure place at m ≡ []
  pub values : way_values limit 0 at m ≡ []

abbrev pub HoldsCleanWay : ℕ → ℕ → Content → Type 0
HoldsCleanWay limit place (Bytes bytes at) = IsCleanWay limit place at bytes
HoldsCleanWay limit place _ = ⊥

-- a field of a group
abbrev pub IsCleanMember : ℕ → Item → Type 0
IsCleanMember limit (Ok o) = (o.number ≡ WAYS) × HoldsCleanWay limit o.place o.content
IsCleanMember limit (Err e) = ⊥

-- a group of ways
abbrev pub AreCleanWays : ℕ → ℕ → List ℕ → Type 0
AreCleanWays limit at m = AllByRecursion (IsCleanMember limit) (items at m)

-- the faults of a field of a payload in these phases
abbrev pub part_faults : ℕ → Occurrence → List Fault
part_faults limit o = (part_wire o ++ part_structure o) ++ in_group (member_values limit) o

-- a payload whose table has as many texts as the limit
pub record IsCleanBlock (limit at : ℕ) (m : List ℕ) : Type 0 where
  pub form : wire_faults at m ≡ []
  pub structure : structure_faults at m ≡ []
  pub values : value_faults limit at m ≡ []
