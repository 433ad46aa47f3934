use Rattle.std.proofs.Common.{◌≡◌, ◌+◌, ◌≤◌, length}
use Rattle.osm_area.specs.Strips.{ListBoxes}
use Rattle.osm_area.proofs.strips.strips_to.Given as goal

abbrev pub invariant-strips : goal.invariant-strips
invariant-strips l = record {
  are : ListBoxes l.fn.span 0 l.fn.boxes l.strips.items;
  number : length l.strips.items ≡ l.number;
  ends : l.number ≤ l.number-end;
}
