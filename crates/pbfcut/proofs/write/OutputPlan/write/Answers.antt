use Rattle.std.proofs.Common.{rules}
use Rattle.std.proofs.lemmas.Result.{err_from_is_err_and}
use Rattle.pbf_header.specs.Header.{header_of}
use Rattle.pbfcut.specs.Pick.{take_of}
use Rattle.pbf_pass.specs.Judged.{judged_file}
use Rattle.pbf_pass.specs.Stops.{WriteFailed}
use Rattle.pbf_pass.proofs.GivenLemmas.{tells_file}
use Rattle.pbfcut.proofs.ChangedLemmas.{stops_as_change, digest_as_change}
use Rattle.pbfcut.proofs.WritingLemmas.{packed_front, packed_told}
use Rattle.pbfcut.proofs.write.OutputPlan.write.Goals as goal

pub returns-in_err-compare-in-Ok : goal.returns-in_err-compare-in-Ok
returns-in_err-compare-in-Ok g c =
    let p = err_from_is_err_and c.from_residual.result c.from_residual.ensures.1 in
    let given = c.in-Ok.ensures.packed in
    let took = given.holding in
    rw (p.1, p.2) (record {
      packed = tt;
      beginning = packed_front (take_of c.args.self.chosen) (header_of c.args.self.header.now) _ _ _ _ took.written
          (packed_told _ _ _ _ given.file took.written (tells_file g.F.Feed _ _ _ _ given) took.holding) took.added.told;
      stops = digest_as_change g.F.Feed c.args.self.pass c.args.feed.now c.write_unjudged.new.feed (WriteFailed g.D.Drain c.args.drain.now c.write_unjudged.new.drain) c.in-Ok.wrote.input _ _ given c.in_err-compare-in-Ok.ensures.other;
      keeps = search rules;
      out = search rules;
    })

pub returns-in-Err : goal.returns-in-Err
returns-in-Err g c = record {
  packed = tt;
  beginning = search rules;
  stops = rw c.changed.ensures (stops_as_change g.F.Feed c.args.self.pass c.args.feed.now c.write_unjudged.new.feed (WriteFailed g.D.Drain c.args.drain.now c.write_unjudged.new.drain) (judged_file (g.F.Feed.remaining c.args.feed.now)) c.in-Err.stop c.in-Err.ensures.stops c.in-Err.ensures.faulty);
  keeps = search rules;
  out = search rules;
}
