use Rattle.std.proofs.Common.{refl}
use Rattle.osm_ids.proofs.Sealing.{ids-pages_of, filled_pages_of, pages_of-ids, sealed_ids}
use Rattle.osm_ids.proofs.laws.pages_are_read.Goals as goal

pub returns-clause-whole : goal.returns-clause-whole
returns-clause-whole c = ids-pages_of

pub returns-clause-filled : goal.returns-clause-filled
returns-clause-filled c = filled_pages_of

pub returns-clause-only : goal.returns-clause-only
returns-clause-only c = pages_of-ids

pub returns-clause-read : goal.returns-clause-read
returns-clause-read c = λ ids rises fits. sealed_ids _ _ ids (record { starts = refl; spelled = refl; rising = rises; fits = fits })
