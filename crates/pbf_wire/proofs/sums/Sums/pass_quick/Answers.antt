use Rattle.std.proofs.Common.{◌-◌, subst, sym, arith}
use Rattle.pbf_wire.specs.Taking.{PassesSpelled, left_of}
use Rattle.pbf_wire.proofs.TakingLemmas.{more_taken, some_passed}
use Rattle.pbf_wire.proofs.sums.Sums.pass_quick.Goals as goal

pub entries-preserved : goal.entries-preserved
entries-preserved c =
    let inv = c.entries.invariant in
    record {
      passed = more_taken (left_of c.args.self.now) (left_of c.entries.rest) (left_of c.pass_one.new.self) c.args.count c.entries.left 1 inv.fewer (omega (arith, c.entries-test.true)) inv.passed (c.pass_one.ensures.passed c.if-not-pass_one.false);
      fewer = omega (arith, inv.fewer);
    }

pub entries-preserved-then-rest-last : goal.entries-preserved-then-rest-last
entries-preserved-then-rest-last c =
    let all = left_of c.args.self.now in
    let inv = c.entries.invariant in
    let one = left_of c.pass_one.new.self in
    let e = c.pass_same-left.ensures in
    let so_far = more_taken all (left_of c.entries.rest) one c.args.count c.entries.left 1 inv.fewer (omega (arith, c.entries-test.true)) inv.passed (c.pass_one.ensures.passed c.if-not-pass_one.false) in
    record {
      passed = more_taken all one (left_of c.pass_same-left.new.self) c.args.count (c.entries.left - 1) c.pass_same-left.result (omega (arith, inv.fewer)) e.few so_far e.passed;
      fewer = omega (arith, inv.fewer);
    }

pub returns-then-not-pass_one-clause-some : goal.returns-then-not-pass_one-clause-some
returns-then-not-pass_one-clause-some c =
    let inv = c.entries.invariant in
    some_passed c.args.self.now c.pass_one.new.self c.args.count c.entries.left (subst (λ z. PassesSpelled (left_of c.args.self.now) z (c.args.count - c.entries.left)) (sym (c.pass_one.ensures.kept c.if-not-pass_one.true)) inv.passed) inv.fewer
