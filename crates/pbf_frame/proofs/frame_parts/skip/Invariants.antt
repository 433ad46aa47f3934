use Rattle.std.proofs.Common.{◌≡◌, ◌≤◌, ◌<◌, ◌-◌, length}
use Rattle.pbf_frame.specs.Reads.{Skips}
use Rattle.pbf_frame.proofs.frame_parts.skip.Given as goal

abbrev pub invariant-loop-left : goal.invariant-loop-left
invariant-loop-left g l = record {
  within : l.left ≤ l.count;
  skips : Skips (g.F.Feed.has_passed l.fn.feed) (g.F.Feed.has_passed l.feed) (g.F.Feed.remaining l.fn.feed) (g.F.Feed.remaining l.feed) (l.count - l.left);
  counts : g.F.Feed.failures l.fn.feed ≤ g.F.Feed.failures l.feed;
  lender : g.F.Feed.lender l.feed ≡ g.F.Feed.lender l.fn.feed;
  room : 0 < length l.room;
}

abbrev pub decreases-loop-left : goal.decreases-loop-left
decreases-loop-left g l = l.left
