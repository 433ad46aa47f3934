use Rattle.std.proofs.Common.{◌≡◌, ◌++◌, drop, take, List, length, Some, Ok, Err, false, rules, refl, arith, sym, subst, ◌∙◌}
use Rattle.std.specs.List.{AllByRecursion, AllZip}
use Rattle.pbf_frame.specs.Verdict.{judged_known}
use Rattle.pbf_pass.specs.Judged.{judged_file}
use Rattle.pbf_pass.specs.Stops.{ReadFailed}
use Rattle.pbf_pass.specs.Refused.{stop_of}
use Rattle.pbf_pass.specs.Unjudged.{ReadsFaulty, StopsUnjudged}
use Rattle.pbf_pass.proofs.GivenLemmas.{gave_file_less, tells_file}
use Rattle.pbfcut.specs.Calls.{fed}
use Rattle.pbfcut.specs.Several.{CanBegin, CanPackEach, IsReadyWriter, IsFreshWriter, KeepsWriter, OneStopped, PutsHeader, StopsAtHeader, StopsAtLast, WriterTook, WritesEachUnjudged, WritesLast}
use Rattle.pbfcut.proofs.SeveralLemmas.{all_back, all_less, zip_length, zip_right}
use Rattle.pbfcut.proofs.WantedWriters.{ready_begun, seen_rest, seen_stops, seen_visits}
use Rattle.pbfcut.proofs.WritingEachLemmas.{began_each, began_ended, began_heads, faulty_each, faulty_ended, faulty_heads, kept_each, kept_ended, kept_heads, kept_lasts, kept_took, stops_each, stops_ended, stops_heads, took_each}
use Rattle.pbfcut.proofs.writing_each.pack_each.Goals as goal

pub begin_all-requires : goal.begin_all-requires
begin_all-requires g c = subst (λ l. AllByRecursion CanBegin l) (sym c.deref_mut.ensures.value) (all_less (IsFreshWriter c.args.pass.number) CanBegin (λ w fresh. fresh.begins) c.args.writers.items c.requires.fresh)

pub returns-in-Err : goal.returns-in-Err
returns-in-Err g c =
    let firsts = c.args.writers.items in
    let nows = c.begin_all.new.writers in
    let one = subst (λ l. OneStopped (PutsHeader g.D.Drain) (StopsAtHeader g.D.Drain c.in-Err.stop) l nows) c.deref_mut.ensures.value c.in-Err.ensures.stopped in
    let kept = kept_heads g.D.Drain c.args.pass.number firsts nows c.in-Err.stop one in
    let back = all_back c.args.writers.len firsts nows c.args.writers.ok.0 (zip_length (KeepsWriter g.D.Drain) firsts nows kept) in
    subst (λ l. WritesEachUnjudged (fed g.F.Feed c.args.feed.now c.args.feed.now) g.D.Drain c.args.pass firsts l (Err c.in-Err.stop)) (sym back) (record {
      packed = tt;
      beginning = began_heads g.D.Drain c.args.pass.number firsts nows c.in-Err.stop one (judged_file (g.F.Feed.remaining c.args.feed.now));
      faulty = faulty_heads g.D.Drain c.args.pass.number firsts nows c.in-Err.stop one g.F.Feed c.args.feed.now c.args.feed.now;
      stops = stops_heads g.D.Drain c.args.pass.number firsts nows c.in-Err.stop one (judged_file (g.F.Feed.remaining c.args.feed.now)) (ReadFailed g.F.Feed c.args.feed.now c.args.feed.now);
      keeps = record { counts = omega arith; lender = refl };
      outs = kept;
    })

pub pass_over-outcome-requires : goal.pass_over-outcome-requires
pass_over-outcome-requires g c =
    let firsts = c.args.writers.items in
    let begun = c.begin_all.new.writers in
    let put = subst (λ l. AllZip (PutsHeader g.D.Drain) l begun) c.deref_mut.ensures.value c.in_default.ensures.began in
    let back = all_back c.args.writers.len firsts begun c.args.writers.ok.0 (zip_length (PutsHeader g.D.Drain) firsts begun put) in
    subst (λ l. CanPackEach c.args.strips l) (sym back) (ready_begun g.D.Drain c.args.strips firsts begun put c.requires.named)

pub returns-in-Err-outcome : goal.returns-in-Err-outcome
returns-in-Err-outcome g c =
    let firsts = c.args.writers.items in
    let begun = c.begin_all.new.writers in
    let begins = subst (λ l. AllZip (PutsHeader g.D.Drain) l begun) c.deref_mut.ensures.value c.in_default.ensures.began in
    let back = all_back c.args.writers.len firsts begun c.args.writers.ok.0 (zip_length (PutsHeader g.D.Drain) firsts begun begins) in
    let starts = take c.args.writers.len (begun ++ drop (length begun) firsts) in
    let put : AllZip (PutsHeader g.D.Drain) firsts starts = subst (λ l. AllZip (PutsHeader g.D.Drain) firsts l) (sym back) begins in
    let nows = c.pass_over-outcome.new.visitor.writers.items in
    let stop = stop_of c.in-Err-outcome.halt in
    let known = judged_known false 0 (g.F.Feed.remaining c.args.feed.now) in
    let read = ReadFailed g.F.Feed c.args.feed.now c.pass_over-outcome.new.feed in
    let stopped = seen_stops g.D.Drain known read _ _ stop c.in-Err-outcome.ensures.stops in
    rw c.into.ensures (record {
      packed = tt;
      beginning = began_each g.D.Drain c.args.pass.number firsts starts c.requires.fresh put known nows stop read stopped;
      faulty = faulty_each g.D.Drain c.args.pass.number firsts starts c.requires.fresh put g.F.Feed c.args.feed.now c.pass_over-outcome.new.feed nows stop (seen_rest g.D.Drain g.F.Feed c.args.feed.now c.pass_over-outcome.new.feed _ _ _ stop c.pass_over-outcome.ensures.keeps c.in-Err-outcome.ensures.given);
      stops = stops_each g.D.Drain c.args.pass.number firsts starts c.requires.fresh put known nows stop read stopped;
      keeps = c.pass_over-outcome.ensures.keeps;
      outs = kept_each g.D.Drain c.args.pass.number firsts starts c.requires.fresh put known nows stop read stopped;
    })

pub end_all-requires : goal.end_all-requires
end_all-requires g c =
    let mids = c.pass_over-outcome.new.visitor.writers.items in
    let ready = (rw c.in-Ok.is at c.pass_over-outcome.ensures.visitor.ready) in
    subst (λ l. AllByRecursion IsReadyWriter l) (sym c.deref_mut-2.ensures.value) ready.each

pub returns-in-Err-end_all : goal.returns-in-Err-end_all
returns-in-Err-end_all g c =
    let firsts = c.args.writers.items in
    let begun = c.begin_all.new.writers in
    let begins = subst (λ l. AllZip (PutsHeader g.D.Drain) l begun) c.deref_mut.ensures.value c.in_default.ensures.began in
    let back = all_back c.args.writers.len firsts begun c.args.writers.ok.0 (zip_length (PutsHeader g.D.Drain) firsts begun begins) in
    let starts = take c.args.writers.len (begun ++ drop (length begun) firsts) in
    let put : AllZip (PutsHeader g.D.Drain) firsts starts = subst (λ l. AllZip (PutsHeader g.D.Drain) firsts l) (sym back) begins in
    let given = c.in-Ok.ensures.visited in
    let mids = c.pass_over-outcome.new.visitor.writers.items in
    let nows = c.end_all.new.writers in
    let stop = c.in-Err-end_all.stop in
    let number = c.args.pass.number in
    let count = c.in-Ok.read.frames in
    let visits = seen_visits g.D.Drain _ count _ _ given.holding.1 in
    let one : OneStopped (WritesLast g.D.Drain) (StopsAtLast g.D.Drain stop) mids nows = subst (λ l. OneStopped (WritesLast g.D.Drain) (StopsAtLast g.D.Drain stop) l nows) c.deref_mut-2.ensures.value c.in-Err-end_all.ensures.stopped in
    let last : AllZip (KeepsWriter g.D.Drain) mids nows = kept_lasts g.D.Drain stop mids nows one in
    let ok = c.pass_over-outcome.new.visitor.writers.ok.0 in
    let whole = all_back c.pass_over-outcome.new.visitor.writers.len mids nows ok (zip_length (KeepsWriter g.D.Drain) mids nows last) in
    subst (λ l. WritesEachUnjudged (fed g.F.Feed c.args.feed.now c.pass_over-outcome.new.feed) g.D.Drain c.args.pass firsts l (Err stop)) (sym whole) (record {
      packed = tt;
      beginning = began_ended g.D.Drain number firsts starts c.requires.fresh put given.file count mids visits nows stop one (g.F.Feed.remaining c.args.feed.now) (tells_file g.F.Feed _ _ _ _ given);
      faulty = faulty_ended g.D.Drain number firsts starts c.requires.fresh put given.file count mids visits nows stop one g.F.Feed c.args.feed.now c.pass_over-outcome.new.feed;
      stops = stops_ended g.D.Drain number firsts starts c.requires.fresh put given.file count mids visits nows stop one (judged_file (g.F.Feed.remaining c.args.feed.now)) (ReadFailed g.F.Feed c.args.feed.now c.pass_over-outcome.new.feed);
      keeps = c.pass_over-outcome.ensures.keeps;
      outs = kept_ended g.D.Drain number firsts starts c.requires.fresh put given.file count mids visits nows stop one;
    })

pub returns : goal.returns
returns g c =
    let firsts = c.args.writers.items in
    let begun = c.begin_all.new.writers in
    let begins = subst (λ l. AllZip (PutsHeader g.D.Drain) l begun) c.deref_mut.ensures.value c.in_default.ensures.began in
    let back = all_back c.args.writers.len firsts begun c.args.writers.ok.0 (zip_length (PutsHeader g.D.Drain) firsts begun begins) in
    let starts = take c.args.writers.len (begun ++ drop (length begun) firsts) in
    let put : AllZip (PutsHeader g.D.Drain) firsts starts = subst (λ l. AllZip (PutsHeader g.D.Drain) firsts l) (sym back) begins in
    let given = c.in-Ok.ensures.visited in
    let mids = c.pass_over-outcome.new.visitor.writers.items in
    let nows = c.end_all.new.writers in
    let number = c.args.pass.number in
    let count = c.in-Ok.read.frames in
    let last : AllZip (WritesLast g.D.Drain) mids nows = subst (λ l. AllZip (WritesLast g.D.Drain) l nows) c.deref_mut-2.ensures.value c.in_default-end_all.ensures.ended in
    let ok = c.pass_over-outcome.new.visitor.writers.ok.0 in
    let whole = all_back c.pass_over-outcome.new.visitor.writers.len mids nows ok (zip_length (WritesLast g.D.Drain) mids nows last) in
    subst (λ l. WritesEachUnjudged (fed g.F.Feed c.args.feed.now c.pass_over-outcome.new.feed) g.D.Drain c.args.pass firsts l (Ok c.in-Ok.read.digest)) (sym whole) (record {
      packed = gave_file_less g.F.Feed _ _ _ _ (λ file. AllZip (WriterTook g.D.Drain (judged_file (Some file))) firsts nows) (λ file p. took_each g.D.Drain number firsts starts c.requires.fresh put file count mids (seen_visits g.D.Drain _ count _ _ p.1) nows last) given;
      beginning = tt;
      faulty = tt;
      stops = tt;
      keeps = c.pass_over-outcome.ensures.keeps;
      outs = kept_took g.D.Drain number firsts starts c.requires.fresh put given.file count mids (seen_visits g.D.Drain _ count _ _ given.holding.1) nows last;
    })
