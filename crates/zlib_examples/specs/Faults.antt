-- Each fault once, but for the eleventh, Memory, which is not in the bytes.
use Rattle.std.specs.Prelude.{◌≡◌, [], ◌∷◌, ◌++◌, Err}
use Rattle.zlib.specs.declared.fault.InflateFault.TheVariants.{Header, Cut, BlockType, StoredLength, Lengths, Symbol, Distance, Long, Checksum, Rest}
use Rattle.zlib.specs.Stream.{inflated}
use Rattle.zlib_examples.specs.Streams.{header, stored_ab}

pub record Faults : Type 0 where
  -- 0x7802 is no multiple of 31
  pub of_header : inflated 9 (0x78 ∷ 0x02 ∷ []) ≡ Err Header
  -- method 9; a window of 64 KiB; a dictionary
  pub of_method : inflated 9 (0x79 ∷ 0x0b ∷ []) ≡ Err Header
  pub of_window : inflated 9 (0x88 ∷ 0x1c ∷ []) ≡ Err Header
  pub of_dictionary : inflated 9 (0x78 ∷ 0x20 ∷ []) ≡ Err Header
  -- no bytes, one byte, and a header that nothing follows
  pub of_nothing : inflated 9 [] ≡ Err Cut
  pub of_one_byte : inflated 9 (0x78 ∷ []) ≡ Err Cut
  pub of_no_block : inflated 9 header ≡ Err Cut
  -- a stored block that says five bytes and has one
  pub of_few_bytes : inflated 9 (header ++ 0x01 ∷ 0x05 ∷ 0x00 ∷ 0xfa ∷ 0xff ∷ 0x61 ∷ []) ≡ Err Cut
  -- 1, the last block; 11, no type
  pub of_type : inflated 9 (header ++ 0x07 ∷ []) ≡ Err BlockType
  -- 2 and 65532 are not 65535 together
  pub of_complement : inflated 9 (header ++ 0x01 ∷ 0x02 ∷ 0x00 ∷ 0xfc ∷ 0xff ∷ 0x61 ∷ 0x62 ∷ []) ≡ Err StoredLength
  -- 1, the last block; 01, codes of its own; 11111, 288 lengths of literals, which are at most 286
  pub of_many_lengths : inflated 9 (header ++ 0xfd ∷ 0x00 ∷ 0x00 ∷ []) ≡ Err Lengths
  -- four lengths of 0: the code for lengths has no word
  pub of_no_code : inflated 9 (header ++ 0x05 ∷ 0x00 ∷ 0x00 ∷ 0x00 ∷ []) ≡ Err Lengths
  -- the word of the symbol 286, which means nothing
  pub of_symbol : inflated 9 (header ++ 0x1b ∷ 0x03 ∷ []) ≡ Err Symbol
  -- a length of 3 and a distance of 1 when nothing was written
  pub of_distance : inflated 9 (header ++ 0x03 ∷ 0x02 ∷ 0x00 ∷ []) ≡ Err Distance
  -- two bytes with room for one
  pub of_limit : inflated 1 stored_ab ≡ Err Long
  -- the last byte of the Adler-32 of "ab" is 0xc4
  pub of_check : inflated 9 (header ++ 0x01 ∷ 0x02 ∷ 0x00 ∷ 0xfd ∷ 0xff ∷ 0x61 ∷ 0x62 ∷ 0x01 ∷ 0x26 ∷ 0x00 ∷ 0xc5 ∷ []) ≡ Err Checksum
  pub of_rest : inflated 9 (stored_ab ++ 0x00 ∷ []) ≡ Err Rest
