-- What a proof unfolds to compute what a stream means.
use Rattle.std.specs.Prelude.{⊤}
use Rattle.zlib.specs.Adler.{adler_from}
use Rattle.zlib.specs.Bits.{low_bits, high_bits, bits_of, number_of}
use Rattle.zlib.specs.Reading.{number_in, numbers_in}
use Rattle.zlib.specs.Codes.{first_word, word, symbol_in}
use Rattle.zlib.specs.Symbols.{spread, token_in, copied, tokens_within}
use Rattle.zlib.specs.Lengths.{own_in, run_in, lengths_within, counts_in, own_code_in, codes_in}
use Rattle.zlib.specs.Blocks.{stored_in, dynamic_in, block_by, block_in, blocks_within}
use Rattle.zlib.specs.Stream.{checksum_in, body, inflated}

unfoldable pub zlib_on_literals : ⊤
unfolding adler_from low_bits high_bits bits_of number_of number_in numbers_in first_word word symbol_in spread token_in copied tokens_within own_in run_in lengths_within counts_in own_code_in codes_in stored_in dynamic_in block_by block_in blocks_within checksum_in body inflated
zlib_on_literals = tt
