use Rattle.std.proofs.Common.{subst}
use Rattle.std.proofs.lemmas.List.{take_rest}
use Rattle.pbf_wire.specs.Varint.{AreNeeded}
use Rattle.pbf_wire.proofs.SpelledLemmas.{block_before}
use Rattle.pbf_wire.proofs.spelled.are_needed.Goals as goal

pub blocks-2-preserved : goal.blocks-2-preserved
blocks-2-preserved c =
    let rest = c.blocks-2.rest.now in
    let here = subst (AreNeeded 0) c.in-Some.ensures.cases.same (c.are_needed_here.ensures c.if-not-are_needed_here.false) in
    rw take_rest (λ more. c.blocks-2.invariant (block_before 32 0 rest here more))
