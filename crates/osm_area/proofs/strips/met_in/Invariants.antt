use Rattle.std.proofs.Common.{◌≡◌, ◌+◌, ◌++◌, length}
use Rattle.osm_area.specs.Strips.{is_met, tested_numbers}
use Rattle.osm_area.proofs.strips.met_in.Given as goal

-- the numbers so far, and those of the boxes that are left, are those of all
abbrev pub invariant-boxes : goal.invariant-boxes
invariant-boxes l = record {
  met : l.met.items ++ tested_numbers (is_met l.span l.number) l.index l.rest ≡ tested_numbers (is_met l.span l.number) 0 l.boxes;
  index : l.index + length l.rest ≡ length l.boxes;
}

abbrev pub decreases-boxes : goal.decreases-boxes
decreases-boxes l = length l.rest
