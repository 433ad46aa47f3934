use Rattle.std.proofs.Common.{rules}
use Rattle.std.proofs.lemmas.Result.{IfErr-weaker}
use Rattle.pbf_pass.specs.Judged.{judged_file}
use Rattle.pbfcut.specs.Repeat.{StopsLater}
use Rattle.pbfcut.proofs.ChangedLemmas.{stops_as_change, digest_as_change}
use Rattle.pbfcut.proofs.repeat.LaterPass.gather.Goals as goal

pub returns-in-Ok : goal.returns-in-Ok
returns-in-Ok g c = record {
  gathered = search rules;
  some = search rules;
  stops = IfErr-weaker c.compare.result _ (StopsLater g.F.Feed c.args.self c.args.feed.now c.gather_unjudged.new.feed ⊥) (λ s other. digest_as_change g.F.Feed c.args.self c.args.feed.now c.gather_unjudged.new.feed ⊥ c.in-Ok.digest _ s c.in-Ok.ensures.gathered other) c.compare.ensures.other;
  keeps = search rules;
}

pub returns-in-Err : goal.returns-in-Err
returns-in-Err g c = record {
  gathered = tt;
  some = tt;
  stops = rw c.changed.ensures (stops_as_change g.F.Feed c.args.self c.args.feed.now c.gather_unjudged.new.feed ⊥ (judged_file (g.F.Feed.remaining c.args.feed.now)) c.in-Err.stop c.in-Err.ensures.stops c.in-Err.ensures.faulty);
  keeps = search rules;
}
