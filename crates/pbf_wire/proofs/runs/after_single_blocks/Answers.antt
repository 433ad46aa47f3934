use Rattle.std.proofs.Common.{◌++◌, ap₂, sym, ◌∙◌, List, ℕ, take-append-drop}
use Rattle.pbf_wire.proofs.SingleLemmas.{more_single}
use Rattle.pbf_wire.proofs.runs.after_single_blocks.Goals as goal

pub many-preserved : goal.many-preserved
many-preserved c =
    let rest = c.many.rest.now in
    let e = c.in-Some.ensures.cases in
    more_single c.args.bytes.now rest c.in-Some.after.now c.in-Some.block.now c.many.invariant (sym (take-append-drop 16 rest) ∙ ap₂ (λ (x y : List ℕ). x ++ y) (sym e.0) (sym e.1)) (c.are_below.ensures c.if-not-are_below.false)
