use Rattle.std.proofs.Common.{ℕ, List, take, sym, ◌∙◌, ap, arith}
use Rattle.std.proofs.lemmas.List.{length-drop, take_rest}
use Rattle.pbf_frame.specs.Devices.{prepend}
use Rattle.pbf_frame.proofs.KnownBytes.{prepend_more, take_read, length_read}
use Rattle.pbf_frame.proofs.Passed.{passes_same, passes_more}
use Rattle.pbf_frame.proofs.transfer.fill.Goals as goal

pub loop-done-preserved : goal.loop-done-preserved
loop-done-preserved g c =
    let buf = c.loop-done.buf in
    let done = c.loop-done.done in
    let so_far = c.loop-done.invariant in
    let left = rw (take_rest buf done, length-drop done buf) at c.in_ok-count.ensures.bound in
    let long = rw (take_rest buf done, length-drop done buf) at c.read.auto.buf in
    let same = length_read done buf c.read.new.buf so_far.within long in
    let read = take_read done c.in_ok-count.count buf c.read.new.buf so_far.within long (omega (arith, left, long)) in
    record {
      within = omega (arith, left, same, so_far.within);
      supplied = record {
        told = prepend_more _ _ _ _ _ so_far.supplied.told c.in_ok-count.ensures.bytes ∙ ap (λ (xs : List ℕ). prepend xs (g.F.Feed.remaining c.read.new.self)) (sym read);
        logged = passes_same (g.F.Feed.has_passed c.args.feed.now) (g.F.Feed.has_passed c.read.new.self) _ _ (sym read) (passes_more (g.F.Feed.has_passed c.args.feed.now) (g.F.Feed.has_passed c.loop-done.feed) (g.F.Feed.has_passed c.read.new.self) (take done buf) (take c.in_ok-count.count c.read.new.buf) so_far.supplied.logged c.in_ok-count.ensures.passed);
      };
      keeps = record {
        counts = omega (arith, so_far.keeps.counts, c.read.ensures.counts);
        lender = c.read.ensures.lender ∙ so_far.keeps.lender;
      };
    }
