use Rattle.std.proofs.Common.{[], ◌∷◌, false}
use Rattle.pbfcut.specs.Calls.{drained, fed}
use Rattle.pbfcut.specs.Theorem.{IsConverted}
use Rattle.pbfcut.proofs.ConvertingLemmas.{can_told}
use Rattle.pbf_pass.proofs.GivenLemmas.{tells_file, told_digest}
use Rattle.pbfcut.proofs.TheoremLemmas.{same_digest, took_of, took_weaker}
use Rattle.pbfcut.proofs.converting.convert.Goals as goal

pub returns-clause-judged : goal.returns-clause-judged
returns-clause-judged g c =
    let one = c.in_ok-convert_with_receipt.ensures.receipt in
    can_told _ one.file (tells_file g.F.Feed _ _ _ _ one) one.holding.0

pub returns-clause-promise : goal.returns-clause-promise
returns-clause-promise g c b supply =
    let counts = c.in_ok-convert_with_receipt.field-0.counts in
    took_weaker g.D.Drain _ _ _ _ (λ written both. both.0) (took_of (fed g.F.Feed c.args.first.now c.convert_with_receipt.new.first) [] (fed g.G.Feed c.args.second.now c.convert_with_receipt.new.second ∷ []) (drained g.D.Drain c.args.drain.now c.convert_with_receipt.new.drain) _ false (λ file written. IsConverted file counts written) b c.in_ok-convert_with_receipt.ensures.receipt supply.0 tt supply.1)

pub returns-clause-canonical : goal.returns-clause-canonical
returns-clause-canonical g c b supply =
    let counts = c.in_ok-convert_with_receipt.field-0.counts in
    took_weaker g.D.Drain _ _ _ _ (λ written both. both.1) (took_of (fed g.F.Feed c.args.first.now c.convert_with_receipt.new.first) [] (fed g.G.Feed c.args.second.now c.convert_with_receipt.new.second ∷ []) (drained g.D.Drain c.args.drain.now c.convert_with_receipt.new.drain) _ false (λ file written. IsConverted file counts written) b c.in_ok-convert_with_receipt.ensures.receipt supply.0 tt supply.1)

pub returns-clause-digests : goal.returns-clause-digests
returns-clause-digests g c =
    let one = c.in_ok-convert_with_receipt.ensures.receipt in
    same_digest _ _ _ (told_digest g.F.Feed _ _ _ _ one) (told_digest g.G.Feed _ _ _ _ one.holding.1)
