use Rattle.std.proofs.Common.{◌≤◌, ◌-◌}
use Rattle.osm_ids.proofs.window.place_for.Given as goal

abbrev pub invariant-pages : goal.invariant-pages
invariant-pages l = l.at ≤ 8

abbrev pub decreases-pages : goal.decreases-pages
decreases-pages l = 8 - l.at
