use Rattle.std.proofs.Common.{◌≡◌, ◌+◌, ◌<◌, ◌++◌, length, take, drop, pos, List, ℕ, ℤ}
use Rattle.pbf_wire.specs.Packed.{last_from}
use Rattle.osm_ids.specs.Pages.{ReadsPage}
use Rattle.osm_ids.specs.Windows.{held}
use Rattle.osm_ids.proofs.page.PageIds.rise.Given as goal

abbrev pub invariant-loop-gap : goal.invariant-loop-gap
invariant-loop-gap l = record {
  some : 0 < l.count;
  sum : l.count ≡ l.fn.self.count + l.gap-index;
  long : length l.self.ids ≡ 128;
  last_is : l.last ≡ last_from (pos 0) (take l.count l.self.ids);
  reading : (all : List ℤ) (more : List ℕ) → ReadsPage all (held l.fn.self) (l.fn.gaps ++ more) → ReadsPage all (take l.count l.self.ids) (drop l.gap-index l.gaps ++ more);
}
