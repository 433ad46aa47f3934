use Rattle.std.proofs.Common.{◌≡◌, ◌≤◌, ◌-◌, length, take}
use Rattle.pbf_frame.specs.Devices.{append, Passes}
use Rattle.pbf_frame.proofs.transfer.write_all.Given as goal

abbrev pub invariant-loop-done : goal.invariant-loop-done
invariant-loop-done g l = record {
  within : l.done ≤ length l.bytes;
  taken : g.D.Drain.taken l.drain ≡ append (g.D.Drain.taken l.fn.drain) (take l.done l.bytes);
  logged : Passes (g.D.Drain.has_taken l.fn.drain) (take l.done l.bytes) (g.D.Drain.has_taken l.drain);
  counts : g.D.Drain.failures l.fn.drain ≤ g.D.Drain.failures l.drain;
  lender : g.D.Drain.lender l.drain ≡ g.D.Drain.lender l.fn.drain;
}

abbrev pub decreases-loop-done : goal.decreases-loop-done
decreases-loop-done g l = length l.bytes - l.done
