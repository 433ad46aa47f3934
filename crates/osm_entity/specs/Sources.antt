-- What the sources of tags, refs, locations and members have still to give.
use Rattle.std.specs.Prelude.{ℕ, suc, ◌%◌, ◌^◌, ◌==◌, if◌then◌else◌, ℤ, List, [], ◌∷◌, map}
use Rattle.std.specs.List.{zip}
use Rattle.std.specs.Borrow.{Bor}
use Rattle.std.specs.Global.{Vec}
use Rattle.pbf_wire.specs.Cursors.{numbers_left, sums_left}
use Rattle.pbf_strings.specs.Texts.{text}
use Rattle.osm_entity.specs.declared.member.Member.{Member}
use Rattle.osm_entity.specs.declared.member.MemberKind.{MemberKind}
use Rattle.osm_entity.specs.declared.member.MemberKind.TheVariants as kind
use Rattle.osm_entity.specs.declared.member.MemberRef.{MemberRef}
use Rattle.osm_entity.specs.declared.member.ColumnMembers.{ColumnMembers}
use Rattle.osm_entity.specs.declared.member.Members.{Members}
use Rattle.osm_entity.specs.declared.member.Members.TheVariants as members
use Rattle.osm_entity.specs.declared.tags.RunTags.{RunTags}
use Rattle.osm_entity.specs.declared.tags.PairedTags.{PairedTags}
use Rattle.osm_entity.specs.declared.tags.Tags.{Tags}
use Rattle.osm_entity.specs.declared.tags.Tags.TheVariants as tags
use Rattle.osm_entity.specs.declared.refs.Refs.{Refs}
use Rattle.osm_entity.specs.declared.refs.Refs.TheVariants as refs
use Rattle.osm_entity.specs.declared.locations.SummedLocations.{SummedLocations}
use Rattle.osm_entity.specs.declared.locations.Locations.{Locations}
use Rattle.osm_entity.specs.declared.locations.Locations.TheVariants as locations
use Rattle.osm_entity.specs.declared.locations.NanoLocations.{NanoLocations}
use Rattle.osm_entity.specs.Entity.{TagSpec, MemberSpec, LocationSpec, nano_location}

-- ---- numbers of texts, of which the low 32 bits count

abbrev pub low_32 : ℕ → ℕ
low_32 number = number % 2 ^ 32

-- the text of a number; a number that the table has no text for gives the empty text
abbrev pub named : List (List ℕ) → ℕ → List ℕ
named table number = text table (low_32 number)

-- ---- tags

abbrev pub lent_tag : Bor (List ℕ) × Bor (List ℕ) → TagSpec
lent_tag tag = (tag.0.now, tag.1.now)

abbrev pub owned_tag : Vec ℕ × Vec ℕ → TagSpec
owned_tag tag = (tag.0.items, tag.1.items)

abbrev pub tag_of : List (List ℕ) → ℕ × ℕ → TagSpec
tag_of table pair = (text table pair.0, text table pair.1)

-- a key, its value, and so on, up to a 0 in key place
abbrev pub run : List ℕ → List (ℕ × ℕ)
run (suc key ∷ value ∷ rest) = (suc key, value) ∷ run rest
run _ = []

-- the tags of one run
abbrev pub run_tags : List (List ℕ) → List ℕ → List TagSpec
run_tags table numbers = map (tag_of table) (run (map low_32 numbers))

-- the tags of a column of keys and one of values, as long as both go on
abbrev pub paired_tags : List (List ℕ) → List ℕ → List ℕ → List TagSpec
paired_tags table keys values = map (tag_of table) (zip (map low_32 keys) (map low_32 values))

abbrev pub run_tags_left : RunTags → List TagSpec
run_tags_left source = run_tags source.table.now (numbers_left source.numbers)

abbrev pub paired_tags_left : PairedTags → List TagSpec
paired_tags_left source = paired_tags source.table.now (numbers_left source.keys) (numbers_left source.values)

abbrev pub tags_left : Tags → List TagSpec
tags_left (tags.Owned rest) = map owned_tag rest.now
tags_left (tags.Run source) = run_tags_left source
tags_left (tags.Paired source) = paired_tags_left source

-- ---- refs

abbrev pub refs_left : Refs → List ℤ
refs_left (refs.Owned rest) = rest.now
refs_left (refs.Summed source) = sums_left source

-- ---- locations, as long as both columns go on

abbrev pub summed_locations_left : SummedLocations → List LocationSpec
summed_locations_left source = zip (sums_left source.lats) (sums_left source.lons)

abbrev pub locations_left : Locations → List LocationSpec
locations_left (locations.Owned rest) = rest.now
locations_left (locations.Summed source) = summed_locations_left source

abbrev pub nano_locations_left : NanoLocations → List LocationSpec
nano_locations_left source = map (nano_location source.scale) (locations_left source.stored)

-- ---- members

-- 0 is a node, 1 a way and 2 a relation; another number, which judgement refuses, is taken as 2
abbrev pub member_kind : ℕ → MemberKind
member_kind number = if low_32 number == 0 then kind.Node else (if low_32 number == 1 then kind.Way else kind.Relation)

abbrev pub lent_member : MemberRef → MemberSpec
lent_member member = record { kind = member.kind; id = member.id; role = member.role.now }

abbrev pub owned_member : Member → MemberSpec
owned_member member = record { kind = member.kind; id = member.id; role = member.role.items }

abbrev pub member_of : List (List ℕ) → ℕ × (ℤ × ℕ) → MemberSpec
member_of table parts = record { kind = member_kind parts.0; id = parts.1.0; role = named table parts.1.1 }

-- the members of three columns, as long as all go on
abbrev pub column_members : List (List ℕ) → List ℕ → List ℤ → List ℕ → List MemberSpec
column_members table kinds ids roles = map (member_of table) (zip kinds (zip ids roles))

abbrev pub column_members_left : ColumnMembers → List MemberSpec
column_members_left source = column_members source.table.now (numbers_left source.kinds) (sums_left source.ids) (numbers_left source.roles)

abbrev pub members_left : Members → List MemberSpec
members_left (members.Owned rest) = map owned_member rest.now
members_left (members.Columns source) = column_members_left source
