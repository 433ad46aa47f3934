-- Streams byte by byte. The bits of a byte are read from the lowest on; a number is written with its lowest bit first, and a code
-- word with its highest bit first.
use Rattle.std.specs.Prelude.{◌≡◌, ℕ, List, [], ◌∷◌, ◌++◌, Ok}
use Rattle.zlib.specs.Stream.{inflated}

-- what every stream here begins with: the method 8 with a window of 32 KiB, and the byte that makes of both a multiple of 31
abbrev pub header : List ℕ
header = 0x78 ∷ 0x01 ∷ []

-- ---- a stored block

abbrev pub stored_ab : List ℕ
stored_ab =
    header
    ++ 0x01 ∷ []  -- from the lowest bit on: 1, the last block; 00, stored; five bits that mean nothing
    ++ 0x02 ∷ 0x00 ∷ []  -- two bytes
    ++ 0xfd ∷ 0xff ∷ []  -- 65535 less two
    ++ 0x61 ∷ 0x62 ∷ []  -- "ab"
    ++ 0x01 ∷ 0x26 ∷ 0x00 ∷ 0xc4 ∷ []  -- the Adler-32: 1 + 97 + 98 is 0xc4, and 98 + 196 is 0x126

abbrev pub Stored : Type 0
Stored = inflated 2 stored_ab ≡ Ok (0x61 ∷ 0x62 ∷ [])

-- ---- a block with the fixed codes

abbrev pub fixed_ababab : List ℕ
fixed_ababab =
    header
    ++ 0x4b ∷ []  -- 1, the last block; 01, fixed codes; 10010, the front of 10010001, which is 0x30 + 97, "a"
    ++ 0x4c ∷ []  -- 001, its end; 10010, the front of 10010010, "b"
    ++ 0x02 ∷ []  -- 010, its end; 00000, the front of 0000010, the symbol 258: a length of 4
    ++ 0x41 ∷ []  -- 10, its end; 00001, the distance symbol 1: a distance of 2; 0, the front of the end
    ++ 0x00 ∷ []  -- 000000, the rest of 0000000, the end of the block; two bits that mean nothing
    ++ 0x08 ∷ 0x04 ∷ 0x02 ∷ 0x4a ∷ []  -- the Adler-32 of "ababab"

abbrev pub Fixed : Type 0
Fixed = inflated 6 fixed_ababab ≡ Ok (0x61 ∷ 0x62 ∷ 0x61 ∷ 0x62 ∷ 0x61 ∷ 0x62 ∷ [])

-- ---- a block with codes of its own

abbrev pub dynamic_aba : List ℕ
dynamic_aba =
    header
    ++ 0x05 ∷ 0xc0 ∷ 0x81 ∷ []  -- 1, the last block; 01, codes of its own; 00000 and 00000, 257 and 1 lengths; 0111, 18 lengths of lengths
    ++ 0x0c ∷ 0x00 ∷ 0x00 ∷ 0x00 ∷ 0x80 ∷ 0x30 ∷ []  -- of three bits, in the order 16, 17, 18, 0, 8, .., 2, 14, 1; with the end of 0x81
    ++ 0xd6 ∷ 0xe7 ∷ 0x0f ∷ 0xd1 ∷ 0x64 ∷ []  -- by the code 0 for 18, 10 for 2, 110 for 0, 111 for 1: 97 zeros, 1, 2, 157 zeros, 2, and 0
    -- so "a" is 0, "b" is 10, the end is 11, and there are no distances. The last bits of 0x64 are 0 10 0 11: "aba" and the end
    ++ 0x02 ∷ 0x4b ∷ 0x01 ∷ 0x25 ∷ []  -- the Adler-32 of "aba"

abbrev pub Dynamic : Type 0
Dynamic = inflated 3 dynamic_aba ≡ Ok (0x61 ∷ 0x62 ∷ 0x61 ∷ [])
