use Rattle.std.proofs.Common.{◌≡◌, ◌++◌, List, length}
use Rattle.osm_entity.specs.Entity.{EntitySpec}
use Rattle.pbf_block.specs.Runs.{joined_runs, runs_left}
use Rattle.pbfcut.specs.Wanted.{WantedLists}
use Rattle.pbfcut.proofs.wanted.wanted_each.Given as goal

-- the lists have what is wanted of the runs that are gone
abbrev pub invariant-loop-run : goal.invariant-loop-run
invariant-loop-run l = record {
  can : (goal.iterator-loop-run).can_next l.run-iterator;
  ends : (goal.iterator-loop-run).is_finite l.run-iterator;
  gone : List EntitySpec;
  split : gone ++ joined_runs (runs_left l.run-iterator) ≡ joined_runs (runs_left l.fn.runs);
  lists : length l.lists.items ≡ l.count;
  marks : length l.marks.items ≡ l.count;
  wanted : WantedLists l.strips gone l.lists.items;
}
