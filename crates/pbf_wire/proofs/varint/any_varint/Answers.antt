use Rattle.std.proofs.Common.{◌≡◌, ◌+◌, true, ltb, sym, arith, below_more, inl, inr}
use Rattle.std.proofs.lemmas.Bool.{lt-ltb}
use Rattle.pbf_wire.proofs.Varints as lemmas
use Rattle.pbf_wire.proofs.varint.any_varint.Goals as goal

pub returns-then-byte-lt128-clause-exact : goal.returns-then-byte-lt128-clause-exact
returns-then-byte-lt128-clause-exact c =
    let i = c.loop-i.i in
    let inv = c.loop-i.invariant in
    let t = lemmas.turn c.args.bytes.now i c.loop-i.value c.from.result c.loop-i-test.true inv.short inv.below inv.value (omega (arith, c.type_inv.bytes i)) c.else-i-eq9.either c.from.ensures in
    let some : ltb 0 (i + 1) ≡ true = lt-ltb _ _ (omega arith) in
    rw some (sym (lemmas.ended_at c.args.bytes.now i _ c.loop-i-test.true (omega arith) inv.goes_on c.if-byte-lt128.true t.0 t.2))

pub loop-i-preserved : goal.loop-i-preserved
loop-i-preserved c =
    let i = c.loop-i.i in
    let inv = c.loop-i.invariant in
    let t = lemmas.turn c.args.bytes.now i c.loop-i.value c.from.result c.loop-i-test.true inv.short inv.below inv.value (omega (arith, c.type_inv.bytes i)) c.else-i-eq9.either c.from.ensures in
    record {
      short = elim c.else-i-eq9.either [ inl p ↦ absurd (omega arith) | inr n ↦ omega arith ];
      below = t.1;
      value = t.0;
      goes_on = below_more _ _ inv.goes_on c.if-byte-lt128.false;
    }
