use Rattle.std.proofs.Common.{◌≡◌, [], ◌∷◌, ◌++◌, take}
use Rattle.std.specs.List.{flat_map}
use Rattle.osm_text.specs.Quoted.{quoted_byte}
use Rattle.osm_text.proofs.quoted.put_quoted_by.Given as goal

abbrev pub invariant-loop-byte : goal.invariant-loop-byte
invariant-loop-byte l = l.out.items ≡ l.fn.out.items ++ 34 ∷ [] ++ flat_map (quoted_byte l.mark l.is_utf8) (take l.byte-index l.text)
