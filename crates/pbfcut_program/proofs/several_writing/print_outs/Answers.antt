use Rattle.std.proofs.Common.{◌≡◌, ◌+◌, ℕ, List, drop, length, map, subst}
use Rattle.std.proofs.lemmas.Iterator.{YieldsList-from_slice, YieldsList-from_zip}
use Rattle.std.proofs.lemmas.Iterator.Consumers.{YieldsList-at, YieldsList-end, YieldsList-so_far, YieldsList-turn}
use Rattle.std.proofs.lemmas.Result.{err_from_is_err_and}
use Rattle.std.specs.List.{zip}
use Rattle.pbfcut_program.specs.declared.configured.OutputCut.{OutputCut}
use Rattle.pbfcut_program.specs.declared.host.Screen.TheVariants.{Output}
use Rattle.pbfcut_program.specs.declared.several_writing.DoneOut.{DoneOut}
use Rattle.pbfcut_program.specs.Events.{then_all}
use Rattle.pbfcut_program.specs.Lines.{out_lines, prints}
use Rattle.pbfcut_program.specs.SeveralEnds.{outs_lines}
use Rattle.pbfcut_program.proofs.FailLemmas.{TellsSome}
use Rattle.pbfcut_program.proofs.SeveralPrinting.{done_seen, item_next, outs_broken, outs_printed}
use Rattle.pbfcut_program.proofs.several_writing.print_outs.Goals as goal

pub outs-preserved : goal.outs-preserved
outs-preserved g c =
    let log = g.H.Host.log in
    let d = c.in-Some.done.now in
    let here = subst (λ (path : List ℕ). log c.print_out.new.host ≡ then_all (log c.outs.host) (prints Output (out_lines d.counts d.output d.meaning path))) c.as_str.ensures.value c.in_ok-print_out.ensures in
    outs_printed c.outs.yielded (c.in-Some.out, c.in-Some.done) (log c.args.host.now) (log c.outs.host) (log c.print_out.new.host) c.outs.invariant here

pub returns-in_err-print_out : goal.returns-in_err-print_out
returns-in_err-print_out g c =
    let log = g.H.Host.log in
    let p = err_from_is_err_and c.from_residual.result c.from_residual.ensures.1 in
    let how = c.in_err-print_out.field-0.0 in
    let d = c.in-Some.done.now in
    let all = zip c.args.outs.now c.args.dones.now in
    let one : OutputCut × DoneOut = (c.in-Some.out.now, d) in
    let zip = c.zip-out-items.ensures in
    let gives = YieldsList-from_zip (YieldsList-at zip.first (YieldsList-from_slice c.args.outs.now c.iter.ensures.rest)) (YieldsList-from_slice {s = c.zip-out-items.result.b} c.args.dones.now zip.second.0) in
    let all_gives = YieldsList-at c.into_iter-out-iterator.ensures.into_iter_gives gives in
    let front = YieldsList-so_far all_gives c.outs.yielded c.outs.out-iterator c.outs.yielded_by in
    let turn = YieldsList-turn all_gives c.outs.yielded c.outs.out-iterator c.outs.yielded_by c.next.result c.next.new.self (c.in-Some.out, c.in-Some.done) c.in-Some.is c.next.ensures.steps in
    let here = subst (λ (path : List ℕ). TellsSome (log c.outs.host) (log c.print_out.new.host) (prints Output (out_lines d.counts d.output d.meaning path)) how) c.as_str.ensures.value c.in_err-print_out.ensures in
    rw (p.1, p.2) (outs_broken how (map done_seen c.outs.yielded) one (drop (length c.outs.yielded + 1) all) all (log c.args.host.now) (log c.outs.host) (log c.print_out.new.host) (item_next done_seen c.outs.yielded one all front turn.0 turn.1) c.outs.invariant here)

pub returns : goal.returns
returns g c =
    let log = g.H.Host.log in
    let zip = c.zip-out-items.ensures in
    let gives = YieldsList-from_zip (YieldsList-at zip.first (YieldsList-from_slice c.args.outs.now c.iter.ensures.rest)) (YieldsList-from_slice {s = c.zip-out-items.result.b} c.args.dones.now zip.second.0) in
    let end = YieldsList-end (YieldsList-at c.into_iter-out-iterator.ensures.into_iter_gives gives) c.outs.yielded c.outs.out-iterator c.outs.yielded_by c.next.result c.next.new.self c.in-None.is c.next.ensures.steps in
    subst (λ (ones : List (OutputCut × DoneOut)). log c.outs.host ≡ then_all (log c.args.host.now) (prints Output (outs_lines ones))) end.0 c.outs.invariant
