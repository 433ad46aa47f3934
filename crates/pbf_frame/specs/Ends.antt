-- Faults that come of the end of the bytes.
use Rattle.std.specs.Prelude.{Bool, true, false}
use Rattle.pbf_wire.specs.declared.fault.Reason.{Reason}
use Rattle.pbf_wire.specs.declared.fault.Reason.TheVariants.{PrefixCut, HeaderCut, BlobCut, NoHeader}

-- bytes are missing, or the header is: with more of them the fault may be another, or none
abbrev pub comes_of_end : Reason → Bool
comes_of_end PrefixCut = true
comes_of_end HeaderCut = true
comes_of_end BlobCut = true
comes_of_end NoHeader = true
comes_of_end _ = false
