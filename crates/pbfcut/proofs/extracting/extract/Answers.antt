use Rattle.std.proofs.Common.{[], ◌∷◌}
use Rattle.pbfcut.specs.Calls.{drained, fed}
use Rattle.osm_area.specs.Area.{box_area}
use Rattle.osm_ways.specs.Selection.{complete_ways}
use Rattle.pbfcut.specs.Theorem.{IsExtraction}
use Rattle.pbfcut.proofs.ConvertingLemmas.{can_told}
use Rattle.pbf_pass.proofs.GivenLemmas.{tells_file, told_digest}
use Rattle.pbfcut.proofs.TheoremLemmas.{gave_all, same_digest, took_of, took_weaker}
use Rattle.pbfcut.proofs.extracting.extract.Goals as goal

pub returns-clause-judged : goal.returns-clause-judged
returns-clause-judged g c =
    let one = c.in_ok-extract_with_receipt.ensures.extracts.receipt in
    can_told _ one.file (tells_file g.F.Feed _ _ _ _ one) one.holding.0

pub returns-clause-promise : goal.returns-clause-promise
returns-clause-promise g c b supply =
    let area = box_area c.args.area in
    let counts = c.in_ok-extract_with_receipt.field-0.counts in
    took_weaker g.D.Drain _ _ _ _ (λ written both. both.0) (took_of (fed g.F.Feed c.args.first.now c.extract_with_receipt.new.first) (fed g.G.Feed c.args.second.now c.extract_with_receipt.new.second ∷ []) (fed g.H.Feed c.args.third.now c.extract_with_receipt.new.third ∷ []) (drained g.D.Drain c.args.drain.now c.extract_with_receipt.new.drain) _ c.in_ok-extract_with_receipt.field-0.spared (λ file written. IsExtraction complete_ways area file counts written) b c.in_ok-extract_with_receipt.ensures.extracts.receipt supply.0 (supply.1.0, tt) supply.1.1)

pub returns-clause-canonical : goal.returns-clause-canonical
returns-clause-canonical g c b supply =
    let area = box_area c.args.area in
    let counts = c.in_ok-extract_with_receipt.field-0.counts in
    took_weaker g.D.Drain _ _ _ _ (λ written both. both.1) (took_of (fed g.F.Feed c.args.first.now c.extract_with_receipt.new.first) (fed g.G.Feed c.args.second.now c.extract_with_receipt.new.second ∷ []) (fed g.H.Feed c.args.third.now c.extract_with_receipt.new.third ∷ []) (drained g.D.Drain c.args.drain.now c.extract_with_receipt.new.drain) _ c.in_ok-extract_with_receipt.field-0.spared (λ file written. IsExtraction complete_ways area file counts written) b c.in_ok-extract_with_receipt.ensures.extracts.receipt supply.0 (supply.1.0, tt) supply.1.1)

pub returns-clause-digests : goal.returns-clause-digests
returns-clause-digests g c =
    let one = c.in_ok-extract_with_receipt.ensures.extracts.receipt in
    let two = gave_all (fed g.G.Feed c.args.second.now c.extract_with_receipt.new.second) _ c.in_ok-extract_with_receipt.field-0.spared one.file _ c.in_ok-extract_with_receipt.ensures.spared one.holding.1 in
    let three = two.holding in (
      same_digest _ _ _ (told_digest g.F.Feed _ _ _ _ one) (told_digest g.G.Feed _ _ _ _ two),
      same_digest _ _ _ (told_digest g.F.Feed _ _ _ _ one) (told_digest g.H.Feed _ _ _ _ three),
    )
