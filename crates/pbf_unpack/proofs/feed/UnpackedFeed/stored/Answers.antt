use Rattle.pbf_unpack.proofs.ReportLemmas.{gave_reported}
use Rattle.pbf_unpack.proofs.feed.UnpackedFeed.stored.Goals as goal

pub returns-clause-gave : goal.returns-clause-gave
returns-clause-gave g c log raw is has = gave_reported g.F.Feed.remaining g.F.Feed.has_passed c.args.self.now log raw is has
