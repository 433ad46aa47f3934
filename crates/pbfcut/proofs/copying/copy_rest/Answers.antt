use Rattle.std.proofs.Common.{[], ◌++◌, ◌∙◌, ap, sym, refl, arith, length-append, Option, List, ℕ, take}
use Rattle.std.proofs.lemmas.List.{length-take-le}
use Rattle.pbf_frame.specs.Devices.{append}
use Rattle.pbf_frame.proofs.KnownBytes.{append_append, append_none, prepend_more, prepend_none}
use Rattle.pbf_frame.proofs.Passed.{passes_more, passes_none}
use Rattle.pbfcut.proofs.CopyingLemmas.{front_then_part}
use Rattle.pbfcut.proofs.copying.copy_rest.Goals as goal

pub done-init : goal.done-init
done-init g c = record {
  copied = (
    record {
      bytes = [];
      gave = record { told = sym (prepend_none (g.F.Feed.remaining c.args.feed.now)); logged = passes_none (g.F.Feed.has_passed c.args.feed.now) };
      took = record { told = sym (append_none (g.D.Drain.taken c.args.drain.now)); logged = passes_none (g.D.Drain.has_taken c.args.drain.now) };
    },
    refl,
  );
  feed = record { counts = omega arith; lender = refl };
  out = record { counts = omega arith; lender = refl };
}

pub done-preserved : goal.done-preserved
done-preserved g c =
    let so_far = c.done.invariant in
    let copied = so_far.copied.0 in
    let piece = take c.in_ok-count.count c.read.new.buf in
    let wrote = c.in_ok-write_all.ensures.ok in
    record {
      copied = (
        record {
          bytes = copied.bytes ++ piece;
          gave = record {
            told = prepend_more _ _ _ copied.bytes piece copied.gave.told c.in_ok-count.ensures.bytes;
            logged = passes_more (g.F.Feed.has_passed c.args.feed.now) (g.F.Feed.has_passed c.done.feed) (g.F.Feed.has_passed c.read.new.self) copied.bytes piece copied.gave.logged c.in_ok-count.ensures.passed;
          };
          took = record {
            told = wrote.told ∙ ap (λ (k : Option (List ℕ)). append k piece) copied.took.told ∙ append_append (g.D.Drain.taken c.args.drain.now) copied.bytes piece;
            logged = passes_more (g.D.Drain.has_taken c.args.drain.now) (g.D.Drain.has_taken c.done.drain) (g.D.Drain.has_taken c.write_all.new.drain) copied.bytes piece copied.took.logged wrote.logged;
          };
        },
        omega (arith, so_far.copied.1, length-append copied.bytes piece, length-take-le c.in_ok-count.count c.read.new.buf (omega (arith, c.in_ok-count.ensures.bound, c.read.auto.buf))),
      );
      feed = record { counts = omega (arith, so_far.feed.counts, c.read.ensures.counts); lender = c.read.ensures.lender ∙ so_far.feed.lender };
      out = record { counts = omega (arith, so_far.out.counts, c.write_all.ensures.counts); lender = c.write_all.ensures.lender ∙ so_far.out.lender };
    }

pub returns-in_err-write_all-clause-front : goal.returns-in_err-write_all-clause-front
returns-in_err-write_all-clause-front g c = λ all is.
    let copied = c.done.invariant.copied.0 in
    let piece = take c.in_ok-count.count c.read.new.buf in
    front_then_part (g.F.Feed.remaining c.read.new.self) _ (g.D.Drain.taken c.done.drain) _ all copied.bytes piece (sym is ∙ prepend_more _ _ _ copied.bytes piece copied.gave.told c.in_ok-count.ensures.bytes) copied.took.told c.write_all.ensures.front

pub returns-clause-copied : goal.returns-clause-copied
returns-clause-copied g c = (c.done.invariant.copied.0, omega (arith, c.done.invariant.copied.1, c.done-test.false))
