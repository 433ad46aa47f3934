use Rattle.std.proofs.Common.{arith}
use Rattle.pbf_unpack.proofs.ReportLemmas.{gave_packed, nothing_left}
use Rattle.pbf_unpack.proofs.feed.UnpackedFeed.has_given_all.Goals as goal

pub returns-then-is_none-clause-gave : goal.returns-then-is_none-clause-gave
returns-then-is_none-clause-gave g c log raw spent has = grind (arith, nothing_left, gave_packed)
