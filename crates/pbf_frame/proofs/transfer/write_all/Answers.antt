use Rattle.std.proofs.Common.{ℕ, List, ◌++◌, take, sym, ap, ◌∙◌, arith}
use Rattle.std.proofs.lemmas.List.{length-drop, take_rest}
use Rattle.std.proofs.Math.Seq.{take-add}
use Rattle.pbf_frame.proofs.Passed.{passes_same, passes_more}
use Rattle.pbf_frame.proofs.KnownBytes.{append_more}
use Rattle.pbf_frame.proofs.transfer.write_all.Goals as goal

pub loop-done-preserved : goal.loop-done-preserved
loop-done-preserved g c =
    let bytes = c.args.bytes.now in
    let left = rw (take_rest bytes c.loop-done.done, length-drop c.loop-done.done bytes) at c.in_ok-done.ensures.bound in
    let done = c.loop-done.done in
    let whole = take-add done _ bytes ∙ ap (λ (l : List ℕ). take done bytes ++ l) (sym (ap (take _) (take_rest bytes done))) in
    record {
      within = omega (arith, left);
      taken = append_more _ _ _ bytes c.loop-done.done _ c.loop-done.invariant.taken c.in_ok-done.ensures.bytes;
      logged = passes_same (g.D.Drain.has_taken c.args.drain.now) (g.D.Drain.has_taken c.write.new.self) _ _ (sym whole) (passes_more (g.D.Drain.has_taken c.args.drain.now) (g.D.Drain.has_taken c.loop-done.drain) (g.D.Drain.has_taken c.write.new.self) (take done bytes) _ c.loop-done.invariant.logged c.in_ok-done.ensures.logged);
      counts = omega (arith, c.write.ensures.counts);
      lender = c.write.ensures.lender ∙ c.loop-done.invariant.lender;
    }
