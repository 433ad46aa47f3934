use Rattle.std.proofs.Common.{◌≡◌, ◌+◌, ◌-◌, ◌∙◌, ap, arith, take, drop, length}
use Rattle.std.proofs.lemmas.Bool.{ltb-true}
use Rattle.std.proofs.lemmas.List.{take_rest, drop-drop, length-drop}
use Rattle.pbf_wire.proofs.ShortLemmas.{one_more, all_short}
use Rattle.pbf_wire.proofs.short.is_short.Goals as goal

pub loop-window-preserved : goal.loop-window-preserved
loop-window-preserved c =
    let bytes = c.args.bytes.now in
    let rest = c.loop-window.rest.now in
    let inv = c.loop-window.invariant in
    let n = length bytes - length rest in
    let e = c.in-Some-first_chunk.ensures.cases in
    let shorter = length-drop 60 rest in
    let on : length bytes - length (drop 60 rest) ≡ n + 60 = omega (arith, e.enough, inv.within) in
    rw take_rest (rw on (record {
      within = omega (arith, inv.within);
      left = ap (drop 60) inv.left ∙ drop-drop 60 n bytes;
      done = one_more bytes c.in-Some-first_chunk.window.now n (e.same ∙ ap (take 64) inv.left) (c.end_soon.ensures c.if-not-end_soon.false) inv.done;
    }))

pub returns-then-end_soon : goal.returns-then-end_soon
returns-then-end_soon c = λ last.
    let inv = c.loop-window.invariant in
    let whole = c.in-Some.ensures.cases in
    all_short c.args.bytes.now c.in-Some.last.now (length c.args.bytes.now - length c.loop-window.rest.now) (omega (arith, whole.0)) (omega (arith, inv.within, c.in_default-first_chunk.ensures.cases)) whole.1.same (ltb-true _ _ last) (c.end_soon-2.ensures c.if-end_soon.true) inv.done
