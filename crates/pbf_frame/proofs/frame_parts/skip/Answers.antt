use Rattle.std.proofs.Common.{◌≡◌, ◌+◌, ◌<◌, ◌++◌, ◌∙◌, length, take, drop, arith, length-append}
use Rattle.std.proofs.lemmas.List.{length-drop, length-take-le}
use Rattle.pbf_frame.proofs.FrontLemmas.{skips_more, bytes_at_short}
use Rattle.pbf_frame.proofs.KnownBytes.{prepend_more}
use Rattle.pbf_frame.proofs.Passed.{passes_more}
use Rattle.pbf_frame.proofs.Refusing.{at_end}
use Rattle.pbf_frame.proofs.frame_parts.skip.Goals as goal

pub loop-left-preserved : goal.loop-left-preserved
loop-left-preserved g c =
    let so_far = c.loop-left.invariant in
    let piece = c.min-piece.result in
    let front : length (take piece c.loop-left.room) ≡ piece = length-take-le piece c.loop-left.room (omega arith) in
    let whole : length c.fill.new.buf ≡ piece = c.fill.auto.buf ∙ front in
    let read : c.in_ok-read.read ≡ piece = omega (arith, c.in_ok-read.ensures.bound, front) in
    let room : 0 < length (c.fill.new.buf) + length (drop piece c.loop-left.room) = omega (arith, whole, length-drop piece c.loop-left.room) in
    record {
      within = omega arith;
      skips = skips_more _ _ _ _ _ _ _ piece _ _ so_far.skips c.in_ok-read.ensures.supplied.told c.in_ok-read.ensures.supplied.logged (length-take-le c.in_ok-read.read c.fill.new.buf (omega (arith, whole, read)) ∙ read) (omega (arith, so_far.within));
      counts = omega (arith, c.fill.ensures.keeps.counts);
      lender = c.fill.ensures.keeps.lender ∙ so_far.lender;
      room = omega (arith, room, length-append c.fill.new.buf (drop piece c.loop-left.room));
    }

pub returns-then-read-piece-clause-refused : goal.returns-then-read-piece-clause-refused
returns-then-read-piece-clause-refused g c =
    let so_far = c.loop-left.invariant in
    let skipped = so_far.skips in
    let piece = c.min-piece.result in
    let front : length (take piece c.loop-left.room) ≡ piece = length-take-le piece c.loop-left.room (omega arith) in
    let whole : length c.fill.new.buf ≡ piece = c.fill.auto.buf ∙ front in
    let last = take c.in_ok-read.read c.fill.new.buf in
    let long : length last ≡ c.in_ok-read.read = length-take-le c.in_ok-read.read c.fill.new.buf (omega (arith, whole, c.in_ok-read.ensures.bound, front)) in
    let short : length (skipped.skipped ++ last) < c.args.count = omega (arith, length-append skipped.skipped last, skipped.long, long, so_far.within, c.if-read-piece.true) in
    at_end _ _ _ _ (skipped.skipped ++ last) _ (prepend_more _ _ _ skipped.skipped last skipped.gone c.in_ok-read.ensures.supplied.told) (passes_more (g.F.Feed.has_passed c.args.feed.now) (g.F.Feed.has_passed c.loop-left.feed) (g.F.Feed.has_passed c.fill.new.feed) skipped.skipped last skipped.passed c.in_ok-read.ensures.supplied.logged)
    (c.in_ok-read.ensures.end (omega (arith, front, c.if-read-piece.true))) (bytes_at_short c.args.cut c.args.count (skipped.skipped ++ last) short)
