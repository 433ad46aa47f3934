use Rattle.std.proofs.Common.{◌≡◌, ◌+◌, ◌-◌, length}
use Rattle.pbf_frame.specs.declared.frame.TheConstants.{FILE_LIMIT}
use Rattle.pbf_frame.specs.Keeps.{KeepsDrain, KeepsFeed}
use Rattle.pbfcut.specs.Copying.{Copied}
use Rattle.pbfcut.proofs.copying.copy_rest.Given as goal

abbrev pub invariant-done : goal.invariant-done
invariant-done g l = record {
  copied : (copied : Copied g.F.Feed l.fn.feed l.feed g.D.Drain l.fn.drain l.drain) × (l.done ≡ length copied.bytes);
  feed : KeepsFeed g.F.Feed l.fn.feed l.feed;
  out : KeepsDrain g.D.Drain l.fn.drain l.drain;
}

abbrev pub decreases-done : goal.decreases-done
decreases-done g l = FILE_LIMIT + 1 - l.done
