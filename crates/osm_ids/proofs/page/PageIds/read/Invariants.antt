use Rattle.std.proofs.Common.{◌≤◌, ◌<◌, ◌-◌, ◌∷◌, take}
use Rattle.pbf_wire.specs.Cursors.{numbers_left}
use Rattle.pbf_wire.specs.Packed.{numbers_of}
use Rattle.osm_ids.specs.Pages.{AllFit, ReadsPage, raised}
use Rattle.osm_ids.specs.Windows.{held}
use Rattle.osm_ids.proofs.page.PageIds.read.Given as goal

abbrev pub invariant-ids : goal.invariant-ids
invariant-ids l = record {
  some : 0 < l.self.count;
  few : l.self.count ≤ 128;
  reading : AllFit (raised l.first (take 127 (numbers_of l.bytes))) → ReadsPage (l.first ∷ raised l.first (take 127 (numbers_of l.bytes))) (held l.self) (take (128 - l.self.count) (numbers_left l.gaps));
}

abbrev pub decreases-ids : goal.decreases-ids
decreases-ids l = 128 - l.self.count
