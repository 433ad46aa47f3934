-- Limits, as numbers: a definition names each of them by a constant of the code.
use Rattle.std.specs.Prelude.{◌≡◌, ◌+◌, ◌*◌, ◌^◌, ◌≤◌, pos}
use Rattle.pbf_wire.specs.declared.limits.TheConstants.{OFFSET_LIMIT, SUM_LIMIT, STORED_LIMIT, RAW_LIMIT}
use Rattle.pbf_frame.specs.declared.frame.TheConstants.{FILE_LIMIT}
use Rattle.pbf_frame.specs.declared.header.TheConstants.{HEADER_LIMIT, LARGEST_SIZE}
use Rattle.pbf_frame.specs.declared.reader.TheConstants.{MOST_BUFFERED}
use Rattle.pbf_strings.specs.declared.table.TheConstants.{MOST_TEXTS, MOST_USED_TEXTS}
use Rattle.osm_entity.specs.declared.weight.TheConstants.{HIGHEST_WEIGHT, UID_LIMIT}
use Rattle.pbf_header.specs.declared.write.TheConstants.{MOST_HEADER_TEXT}
use Rattle.pbf_block.specs.declared.block_write.TheConstants.{MOST_ENTITIES}
use Rattle.osm_pack.specs.declared.open_block.TheConstants.{MOST_HELD}

-- ---- what a file may have

pub record FileLimits : Type 0 where
  pub file : FILE_LIMIT ≡ 2 ^ 62
  pub offset : OFFSET_LIMIT ≡ 2 ^ 63
  pub header : HEADER_LIMIT ≡ 65536  -- below it
  pub blob : LARGEST_SIZE ≡ 33555455
  pub payload : RAW_LIMIT ≡ 33554432  -- below it
  pub texts : MOST_TEXTS ≡ 1048576
  pub sum : SUM_LIMIT ≡ 2 ^ 62  -- strictly between this and its negative, as ids and coordinates
  pub stored : STORED_LIMIT ≡ pos (2 ^ 62)
  pub uid : UID_LIMIT ≡ pos (2 ^ 30)
  pub weight : HIGHEST_WEIGHT ≡ 12000000

-- ---- what is written

pub record WrittenLimits : Type 0 where
  pub entities : MOST_ENTITIES ≡ 8000  -- of a block, which weigh no more together than one entity may
  pub texts : MOST_USED_TEXTS ≡ 1048575  -- and the empty one
  pub header_text : MOST_HEADER_TEXT ≡ 12000000

-- ---- what is held beside the ids and the header: in the reader, in the packer, and four bytes for each text of a table that is read

pub record SpaceLimits : Type 0 where
  pub reader : MOST_BUFFERED ≡ 33620990
  pub packer : MOST_HELD ≡ 28000000
  pub all : MOST_BUFFERED + MOST_HELD + 4 * MOST_TEXTS ≤ 67108864
