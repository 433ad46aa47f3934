use Rattle.std.proofs.Common.{refl, ap, ◌∙◌, Ok}
use Rattle.pbf_frame.proofs.Advancing.{lends_none}
use Rattle.pbf_frame.proofs.reader.FrameReader.next.Goals as goal

pub returns-in_default : goal.returns-in_default
returns-in_default g c = ((refl, (λ _. tt), lends_none _ _ _ (c.in_ok-seen.was ∙ ap Ok c.in_default.is) c.advance.ensures.next), record { after = tt })
