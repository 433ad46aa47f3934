use Rattle.std.proofs.Common.{◌≡◌, ◌++◌, length, map}
use Rattle.std.specs.Str.{IsUtf8}
use Rattle.osm_box.proofs.CutLemmas.{pieces_at}
use Rattle.osm_ways.specs.Whole.{name_of}
use Rattle.osm_ways.proofs.whole.names_in.Given as goal

-- the names so far, and those of the rest
abbrev pub invariant-names : goal.invariant-names
invariant-names l = record {
  are : map name_of l.names.items ++ pieces_at 44 l.rest ≡ pieces_at 44 l.fn.text;
  is_text : IsUtf8 l.rest;
}

abbrev pub decreases-names : goal.decreases-names
decreases-names l = length l.rest
