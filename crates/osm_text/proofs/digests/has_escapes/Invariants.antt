use Rattle.std.proofs.Common.{◌≡◌, false, take}
use Rattle.std.specs.List.{list_any}
use Rattle.osm_text.specs.Digests.{is_escaped}
use Rattle.osm_text.proofs.digests.has_escapes.Given as goal

-- none of the bytes before is escaped
abbrev pub invariant-loop-byte : goal.invariant-loop-byte
invariant-loop-byte l = list_any is_escaped (take l.byte-index l.path) ≡ false
