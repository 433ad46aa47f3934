-- The line of an entity.
use Rattle.std.specs.Prelude.{ℤ, Bool, true, false, List, [], ◌∷◌, ◌++◌, Option, Some, None, ℕ}
use Rattle.std.specs.Fmt.{signed_decimal}
use Rattle.std.specs.List.{flat_map}
use Rattle.osm_entity.specs.declared.member.MemberKind.{MemberKind}
use Rattle.osm_entity.specs.declared.member.MemberKind.TheVariants as kind
use Rattle.osm_entity.specs.Entity.{TagSpec, LocationSpec, MetaSpec, MemberSpec, EntitySpec, Decoded, node_at, way_through, relation_among, decoded}
use Rattle.osm_text.specs.Dates.{time_text}
use Rattle.osm_text.specs.Quoted.{quoted}

-- a number after a space
abbrev pub spaced : ℤ → List ℕ
spaced number = 32 ∷ [] ++ signed_decimal number

abbrev pub spaced_pair : ℤ → ℤ → List ℕ
spaced_pair first second = spaced first ++ spaced second

-- ---- metadata: each field that is present, after a space and its mark

abbrev pub number_part : ℕ → Option ℤ → List ℕ
number_part mark None = []
number_part mark (Some number) = 32 ∷ mark ∷ [] ++ signed_decimal number

abbrev pub time_part : Bool → Option ℤ → List ℕ
time_part dates None = []
time_part dates (Some millis) = 32 ∷ 116 ∷ [] ++ time_text dates millis

abbrev pub user_part : Option (List ℕ) → List ℕ
user_part None = []
user_part (Some text) = 32 ∷ 115 ∷ [] ++ quoted text

abbrev pub visible_part : Option Bool → List ℕ
visible_part None = []
visible_part (Some true) = 32 ∷ 100 ∷ 49 ∷ []
visible_part (Some false) = 32 ∷ 100 ∷ 48 ∷ []

-- the version, the time in milliseconds, the changeset, the uid, the user and whether it is visible: v, t, c, u, s, d
unfoldable pub meta_text : Bool → MetaSpec → List ℕ
meta_text dates meta =
    number_part 118 meta.version ++ time_part dates meta.timestamp ++ number_part 99 meta.changeset
    ++ number_part 117 meta.uid ++ user_part meta.user ++ visible_part meta.visible

-- ---- what an entity is made of

-- key `=` value
abbrev pub tag_text : TagSpec → List ℕ
tag_text tag = 32 ∷ [] ++ quoted tag.0 ++ 61 ∷ [] ++ quoted tag.1

-- `n` and the id
abbrev pub ref_text : ℤ → List ℕ
ref_text id = 32 ∷ 110 ∷ [] ++ signed_decimal id

-- `@`, the latitude, `,` and the longitude
abbrev pub location_text : LocationSpec → List ℕ
location_text location = 64 ∷ [] ++ signed_decimal location.0 ++ 44 ∷ [] ++ signed_decimal location.1

-- each ref, with its location as long as there are locations
abbrev pub refs_text : List ℤ → List LocationSpec → List ℕ
refs_text [] locations = []
refs_text (id ∷ ids) [] = ref_text id ++ refs_text ids []
refs_text (id ∷ ids) (location ∷ locations) = ref_text id ++ location_text location ++ refs_text ids locations

-- `n`, `w` or `r`
abbrev pub kind_mark : MemberKind → ℕ
kind_mark kind.Node = 110
kind_mark kind.Way = 119
kind_mark kind.Relation = 114

-- the mark, the id, `@` and the role
abbrev pub member_text : MemberSpec → List ℕ
member_text member = 32 ∷ kind_mark member.kind ∷ [] ++ signed_decimal member.id ++ 64 ∷ [] ++ quoted member.role

-- ---- the line: N, W or R, the id, for a node latitude and longitude in nanodegrees, and the parts

abbrev pub start_text : ℕ → ℤ → List ℕ
start_text letter id = letter ∷ [] ++ spaced id

-- metadata, then tags
unfoldable pub common_text : Bool → MetaSpec → List TagSpec → List ℕ
common_text dates meta tags = meta_text dates meta ++ flat_map tag_text tags

abbrev pub decoded_line : Bool → Decoded → List ℕ
decoded_line dates (node_at id lat lon meta tags) = start_text 78 id ++ spaced_pair lat lon ++ common_text dates meta tags ++ 10 ∷ []
decoded_line dates (way_through id meta tags refs locations) = start_text 87 id ++ common_text dates meta tags ++ refs_text refs locations ++ 10 ∷ []
decoded_line dates (relation_among id meta tags members) = start_text 82 id ++ common_text dates meta tags ++ flat_map member_text members ++ 10 ∷ []

abbrev pub entity_line : Bool → EntitySpec → List ℕ
entity_line dates e = decoded_line dates (decoded e)
