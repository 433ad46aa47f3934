use Rattle.std.proofs.Common.{◌<◌, ◌∙◌, sym, ap, arith, length, Err}
use Rattle.std.proofs.lemmas.Bool.{eqb-true, eqb-false}
use Rattle.std.proofs.lemmas.List.{take_rest}
use Rattle.std.proofs.lemmas.Result.{err_from_is_err_and}
use Rattle.pbf_wire.specs.Columns.{entry_fault}
use Rattle.pbf_wire.specs.Wire.{ok_unless}
use Rattle.pbf_wire.proofs.Columns.{entries_none, entries_ok, entries_err}
use Rattle.pbf_wire.proofs.form.judge_packed.Goals as goal

pub returns-in_err-length : goal.returns-in_err-length
returns-in_err-length c =
    let p = err_from_is_err_and c.from_residual.result c.from_residual.ensures.1 in
    let rest = c.loop-rest.rest.now in
    let some : 0 < length rest = omega (arith, eqb-false _ _ (sym c.is_empty.ensures ∙ c.loop-rest-test.true)) in
    let e = entries_err rest c.in_err-length.field-0.0 some (sym c.in_err-length.ensures.exact) in
    p.1 ∙ ap Err p.2 ∙ ap ok_unless (sym (ap entry_fault e) ∙ c.loop-rest.invariant)

pub loop-rest-preserved : goal.loop-rest-preserved
loop-rest-preserved c =
    let rest = c.loop-rest.rest.now in
    let t = c.in_ok-length.ensures.taken in
    let e = entries_ok rest c.in_ok-length.field-0-0 c.in_ok-length.length t.0 t.1 (sym c.in_ok-length.ensures.exact) in
    rw take_rest (sym (ap entry_fault e) ∙ c.loop-rest.invariant)

pub returns : goal.returns
returns c =
    let e = entries_none c.loop-rest.rest.now (eqb-true _ _ (sym c.is_empty.ensures ∙ c.loop-rest-test.false)) in
    ap ok_unless (sym (ap entry_fault e) ∙ c.loop-rest.invariant)
