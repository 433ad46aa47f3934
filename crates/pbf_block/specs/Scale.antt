-- What a PrimitiveBlock says of all its entities: the scale of their numbers, and the texts that they name.
use Rattle.std.specs.Prelude.{ℕ, ℤ, List}
use Rattle.std.specs.Option.{option_map_or}
use Rattle.pbf_wire.specs.Occurrence.{Occurrence}
use Rattle.pbf_wire.specs.Reading.{occurrence_text, last_of, last_number}
use Rattle.pbf_wire.specs.Signed.{low_i32, low_i64}
use Rattle.pbf_strings.specs.Texts.{texts}
use Rattle.osm_entity.specs.declared.scale.Scale.{Scale}
use Rattle.pbf_block.specs.declared.primitive_block.TheConstants.{STRINGTABLE, GRANULARITY, DATE_GRANULARITY, LAT_OFFSET, LON_OFFSET}
use Rattle.pbf_block.specs.declared.scale.TheConstants.{DEFAULT_SCALE}

-- the last number of the field k, as it is read, and something else if it is absent
abbrev pub number_or : ℤ → (ℕ → ℤ) → ℕ → List Occurrence → ℤ
number_or otherwise read k os = option_map_or read (last_number k os) otherwise

-- what the block doesn't say of its scale is the default's
abbrev pub scale_of : List Occurrence → Scale
scale_of os = record {
  granularity = number_or DEFAULT_SCALE.granularity low_i32 GRANULARITY os;
  date_granularity = number_or DEFAULT_SCALE.date_granularity low_i32 DATE_GRANULARITY os;
  lat_offset = number_or DEFAULT_SCALE.lat_offset low_i64 LAT_OFFSET os;
  lon_offset = number_or DEFAULT_SCALE.lon_offset low_i64 LON_OFFSET os;
}

-- the texts of the last string table
abbrev pub stored_texts : List Occurrence → List (List ℕ)
stored_texts os = texts (occurrence_text (last_of STRINGTABLE os))
