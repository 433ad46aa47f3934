use Rattle.std.proofs.Common.{◌≤◌, ◌<◌, ◌+◌, ◌-◌, length}
use Rattle.osm_ids.specs.Windows.{IsRunOfIds}
use Rattle.osm_ids.proofs.page.run_after.Given as goal

abbrev pub invariant-up : goal.invariant-up
invariant-up l = record {
  low : l.at ≤ l.to;
  high : l.to < length l.ids;
  step : l.step ≤ 8;
  run : IsRunOfIds l.ids l.at l.to;
}

abbrev pub decreases-up : goal.decreases-up
decreases-up l = (length l.ids - l.to) + l.step
