use Rattle.std.proofs.Common.{◌≡◌, ℕ, List, ◌+◌, Some, length, sym, arith, ◌∙◌, ap, rules}
use Rattle.std.proofs.lemmas.Result.{err_from_is_err_and}
use Rattle.byteorder.specs.Endian.{big_number}
use Rattle.pbf_wire.specs.Least.{least}
use Rattle.pbf_frame.specs.declared.frame.TheConstants.{FILE_LIMIT}
use Rattle.pbf_frame.specs.Frames.{order_faults}
use Rattle.pbf_frame.specs.Steps.{head_of}
use Rattle.pbf_frame.proofs.Refusing.{whatever_follows, header_unfit, header_misplaced}
use Rattle.pbf_frame.proofs.frame_parts.read_header.Goals as goal

pub returns-in_err-head-clause-reads : goal.returns-in_err-head-clause-reads
returns-in_err-head-clause-reads g c =
    let header = c.read_bytes.new.buf.items in
    let p = err_from_is_err_and c.from_residual-in_err-head.result c.from_residual-in_err-head.ensures.1 in
    let long : length header ≡ big_number 4 c.args.prefix.now = omega (arith, c.in_ok-read_bytes.ensures.len, c.read_u32.ensures) in
    record {
      given = search rules;
      refused = rw (p.1, p.2) (whatever_follows _ _ _ _ header _ c.in_ok-read_bytes.ensures.supplied.told c.in_ok-read_bytes.ensures.supplied.logged (λ rest. header_unfit c.args.start.had_header c.args.start.place c.args.prefix.now header rest c.in_err-head.field-0.0 long (ap (λ (l : List ℕ). head_of (c.args.start.place + 4) l) (sym c.deref.ensures.value) ∙ sym c.in_err-head.ensures.exact)));
      uses = search rules;
    }

pub returns-in-Some-clause-reads : goal.returns-in-Some-clause-reads
returns-in-Some-clause-reads g c =
    let header = c.read_bytes.new.buf.items in
    let long : length header ≡ big_number 4 c.args.prefix.now = omega (arith, c.in_ok-read_bytes.ensures.len, c.read_u32.ensures) in
    let head = c.in_ok-head.head in
    let says = ap (λ (l : List ℕ). head_of (c.args.start.place + 4) l) (sym c.deref.ensures.value) ∙ sym c.in_ok-head.ensures.exact in
    let ends : c.args.start.place + 4 + c.len.result + c.from.result ≡ c.args.start.place + 4 + length header + head.size = omega (arith, c.len.ensures, c.from.ensures, c.read_bytes.new.buf.ok.0) in
    let misplaced = ap (λ (n : ℕ). least (order_faults (Some FILE_LIMIT) c.args.start.had_header c.args.start.place head.kind n)) (sym ends) ∙ sym c.judge_order.ensures ∙ c.in-Some.is in
    record {
      given = search rules;
      refused = whatever_follows _ _ _ _ header _ c.in_ok-read_bytes.ensures.supplied.told c.in_ok-read_bytes.ensures.supplied.logged (λ rest. header_misplaced c.args.start.had_header c.args.start.place c.args.prefix.now header rest head c.in-Some.fault long says misplaced);
      uses = search rules;
    }
