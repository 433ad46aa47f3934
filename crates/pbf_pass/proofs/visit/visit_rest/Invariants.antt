use Rattle.std.proofs.Common.{◌≡◌, ◌≤◌, ◌-◌, ◌^◌, List, length}
use Rattle.pbf_frame.specs.Frames.{FrameSpec}
use Rattle.pbf_frame.specs.Verdict.{VerdictAfter}
use Rattle.pbf_frame.specs.Next.{verdict, place_of, IsReading}
use Rattle.pbf_pass.specs.Visit.{Visited}
use Rattle.pbf_pass.proofs.ReadingLemmas.{HasPassed}
use Rattle.pbf_pass.proofs.visit.visit_rest.Given as goal

-- the frames done were visited, and the verdict is that they come and then those of what is left
abbrev pub invariant-frames : goal.invariant-frames
invariant-frames g l =
    let remaining = g.F.Feed.remaining in
    let first = l.initial.reader in
    record {
      done : (frames : List FrameSpec) × VerdictAfter (verdict remaining first) frames (verdict remaining l.reader) × Visited g.V.Visit.took l.initial.visitor frames l.visitor × HasPassed g.F.Feed first frames l.reader × (l.count ≡ length frames);
      few : l.count ≤ place_of l.reader;
      limited : place_of l.reader ≤ 2 ^ 62;
      reading : IsReading l.reader;
      ready : g.V.Visit.ready l.visitor;
      counts : g.F.Feed.failures first.feed ≤ g.F.Feed.failures l.reader.feed;
      lender : g.F.Feed.lender l.reader.feed ≡ g.F.Feed.lender first.feed;
      visitor : g.V.Visit.lender l.visitor ≡ g.V.Visit.lender l.initial.visitor;
    }

abbrev pub decreases-frames : goal.decreases-frames
decreases-frames g l = 2 ^ 62 - place_of l.reader
