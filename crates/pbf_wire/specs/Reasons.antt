-- The reasons of refusals: their numbers and names.
use Rattle.std.specs.Prelude.{ℕ, List, codes}
use Rattle.pbf_wire.specs.declared.fault.Reason.{Reason}
use Rattle.pbf_wire.specs.declared.fault.Reason.TheVariants.{VarintCut, VarintLong, NumberZero, TagLarge, Group, WireType, LengthPast, FixedCut, WrongType, PrefixCut, HeaderLong, HeaderCut, BlobCut, DataSize, NoRaw, RawLong, Zlib, Lzma, Bzip2, Lz4, Zstd, NoHeader, SecondHeader, DataFirst, Missing, FileLong, TooManyStrings, StringIndex, ColumnLengths, KeysVals, OutOfRange, EntityLarge, TwiceMessage, MixedGroup, Changesets, Granularity, DateGranularity, Feature, TagColumns, MemberColumns, MemberKind, LocationColumns, Unsorted}

-- the number of a reason, and its name
abbrev pub number_and_name : Reason → ℕ × List ℕ
number_and_name VarintCut = (1, codes "VarintCut")
number_and_name VarintLong = (2, codes "VarintLong")
number_and_name NumberZero = (3, codes "NumberZero")
number_and_name TagLarge = (4, codes "TagLarge")
number_and_name Group = (5, codes "Group")
number_and_name WireType = (6, codes "WireType")
number_and_name LengthPast = (7, codes "LengthPast")
number_and_name FixedCut = (8, codes "FixedCut")
number_and_name WrongType = (9, codes "WrongType")
number_and_name PrefixCut = (10, codes "PrefixCut")
number_and_name HeaderLong = (11, codes "HeaderLong")
number_and_name HeaderCut = (12, codes "HeaderCut")
number_and_name BlobCut = (13, codes "BlobCut")
number_and_name DataSize = (14, codes "DataSize")
number_and_name NoRaw = (15, codes "NoRaw")
number_and_name RawLong = (16, codes "RawLong")
number_and_name Zlib = (17, codes "Zlib")
number_and_name Lzma = (18, codes "Lzma")
number_and_name Bzip2 = (19, codes "Bzip2")
number_and_name Lz4 = (20, codes "Lz4")
number_and_name Zstd = (21, codes "Zstd")
number_and_name NoHeader = (22, codes "NoHeader")
number_and_name SecondHeader = (23, codes "SecondHeader")
number_and_name DataFirst = (24, codes "DataFirst")
number_and_name (Missing _) = (25, codes "Missing")
number_and_name FileLong = (26, codes "FileLong")
number_and_name TooManyStrings = (30, codes "TooManyStrings")
number_and_name StringIndex = (31, codes "StringIndex")
number_and_name ColumnLengths = (40, codes "ColumnLengths")
number_and_name KeysVals = (41, codes "KeysVals")
number_and_name OutOfRange = (42, codes "OutOfRange")
number_and_name EntityLarge = (43, codes "EntityLarge")
number_and_name TwiceMessage = (50, codes "TwiceMessage")
number_and_name MixedGroup = (51, codes "MixedGroup")
number_and_name Changesets = (52, codes "Changesets")
number_and_name Granularity = (53, codes "Granularity")
number_and_name DateGranularity = (54, codes "DateGranularity")
number_and_name Feature = (55, codes "Feature")
number_and_name TagColumns = (57, codes "TagColumns")
number_and_name MemberColumns = (58, codes "MemberColumns")
number_and_name MemberKind = (59, codes "MemberKind")
number_and_name LocationColumns = (60, codes "LocationColumns")
number_and_name Unsorted = (61, codes "Unsorted")

abbrev pub reason_number : Reason → ℕ
reason_number r = (number_and_name r).0

abbrev pub reason_name : Reason → List ℕ
reason_name r = (number_and_name r).1

-- the field of Missing, and 0 for another reason
abbrev pub missing_field : Reason → ℕ
missing_field (Missing field) = field
missing_field _ = 0
