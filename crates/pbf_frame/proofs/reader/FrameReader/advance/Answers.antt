use Rattle.std.proofs.Common.{◌≡◌, refl, ap, ◌+◌, ◌||◌, ℕ, rules}
use Rattle.pbf_frame.specs.Frames.{is_header}
use Rattle.pbf_frame.proofs.Advancing.{sees_end_once_ended, sees_frame, sees_end, sees_stop}
use Rattle.pbf_frame.proofs.reader.FrameReader.advance.Goals.{then-self, else-self}
use Rattle.pbf_frame.proofs.reader.FrameReader.advance.Goals as goal

pub returns-in-Ended-clause-next : goal.returns-in-Ended-clause-next
returns-in-Ended-clause-next g c = sees_end_once_ended _ c.in-Ended.is

pub returns-after-self-clause-next : goal.returns-after-self-clause-next
returns-after-self-clause-next g c =
    let had : c.if-self.self ≡ (c.args.self.now.had_header || is_header c.in-Ok-Some.seen.kind) = elim c.if-self.branch [ then-self w ↦ search rules | else-self w ↦ search rules ] in
    sees_frame _ _ _ c.in-Ok-Some.seen (search rules) record { reading = c.in-Reading.is; same_lender = c.read_frame-read.ensures.feed.keeps.lender; counts = c.read_frame-read.ensures.feed.keeps.counts } (search rules) refl (ap (λ (n : ℕ). c.in-Ok-Some.seen.blob_at + n) c.from.ensures) (search rules) had

pub returns-in-Ok-None-clause-next : goal.returns-in-Ok-None-clause-next
returns-in-Ok-None-clause-next g c =
    sees_end _ _ _ (search rules) record { reading = c.in-Reading.is; same_lender = c.read_frame-read.ensures.feed.keeps.lender; counts = c.read_frame-read.ensures.feed.keeps.counts } (search rules) refl refl

pub returns-in-Err-clause-next : goal.returns-in-Err-clause-next
returns-in-Err-clause-next g c = sees_stop _ _ _ c.in-Err.stop c.in-Err.is record { reading = c.in-Reading.is; same_lender = c.read_frame-read.ensures.feed.keeps.lender; counts = c.read_frame-read.ensures.feed.keeps.counts } c.in-Err.ensures.refused c.in-Err.ensures.feed.stops refl refl
