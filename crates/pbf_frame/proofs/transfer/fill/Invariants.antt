use Rattle.std.proofs.Common.{◌≤◌, ◌-◌, length, take}
use Rattle.pbf_frame.specs.Keeps.{KeepsFeed}
use Rattle.pbf_frame.specs.Transfers.{SuppliedFirst}
use Rattle.pbf_frame.proofs.transfer.fill.Given as goal

abbrev pub invariant-loop-done : goal.invariant-loop-done
invariant-loop-done g l = record {
  within : l.done ≤ length l.buf;
  supplied : SuppliedFirst g.F.Feed l.fn.feed (take l.done l.buf) l.feed;
  keeps : KeepsFeed g.F.Feed l.fn.feed l.feed;
}

abbrev pub decreases-loop-done : goal.decreases-loop-done
decreases-loop-done g l = length l.initial.buf - l.done
