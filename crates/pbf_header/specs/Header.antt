-- A HeaderBlock: what it says.
use Rattle.std.specs.Prelude.{ℕ, ℤ, List, Option, None, unwrap_or, map}
use Rattle.std.specs.List.{last_or}
use Rattle.std.specs.Option.{option_map}
use Rattle.std.specs.Global.{Vec}
use Rattle.pbf_wire.specs.Faults.{fields_in}
use Rattle.pbf_wire.specs.Occurrence.{Occurrence}
use Rattle.pbf_wire.specs.Reading.{last_number, each}
use Rattle.pbf_wire.specs.Signed.{unzigzag, low_i64}
use Rattle.pbf_header.specs.declared.header.Header.{Header}
use Rattle.pbf_header.specs.declared.header.HeaderBox.{HeaderBox}
use Rattle.pbf_header.specs.declared.header_block.TheConstants.{BBOX, REQUIRED_FEATURES, OPTIONAL_FEATURES, WRITINGPROGRAM, SOURCE, REPLICATION_TIMESTAMP, REPLICATION_SEQUENCE, REPLICATION_URL, LEFT, RIGHT, TOP, BOTTOM}

-- a header, its texts as bytes
pub record HeaderSpec : Type 0 where
  pub bbox : Option HeaderBox
  pub required : List (List ℕ)
  pub optional : List (List ℕ)
  pub program : Option (List ℕ)
  pub source : Option (List ℕ)
  pub url : Option (List ℕ)
  pub timestamp : Option ℤ
  pub sequence : Option ℤ

-- ---- as the code has it

abbrev pub text_of : Vec ℕ → List ℕ
text_of text = text.items

abbrev pub header_of : Header → HeaderSpec
header_of h = record {
  bbox = h.bbox;
  required = map text_of h.required.items;
  optional = map text_of h.optional.items;
  program = option_map text_of h.program;
  source = option_map text_of h.source;
  url = option_map text_of h.url;
  timestamp = h.timestamp;
  sequence = h.sequence;
}

-- ---- as it is in a message

-- the last number of the field k as an sint64, and 0 if there is none
abbrev pub edge : ℕ → List Occurrence → ℤ
edge k os = unzigzag (unwrap_or (last_number k os) 0)

-- the box of a message; where in the file it is doesn't matter
abbrev pub box_in : List ℕ → HeaderBox
box_in m = let os = fields_in 0 m in record { left = edge LEFT os; right = edge RIGHT os; top = edge TOP os; bottom = edge BOTTOM os }

-- the last text of the field k
abbrev pub last_text : ℕ → List Occurrence → Option (List ℕ)
last_text k os = last_or None (each k os)

-- the header that a payload holds whose first byte is here in the file
unfoldable pub header_in : ℕ → List ℕ → HeaderSpec
header_in at m = let os = fields_in at m in record {
  bbox = option_map box_in (last_text BBOX os);
  required = each REQUIRED_FEATURES os;
  optional = each OPTIONAL_FEATURES os;
  program = last_text WRITINGPROGRAM os;
  source = last_text SOURCE os;
  url = last_text REPLICATION_URL os;
  timestamp = option_map low_i64 (last_number REPLICATION_TIMESTAMP os);
  sequence = option_map low_i64 (last_number REPLICATION_SEQUENCE os);
}
