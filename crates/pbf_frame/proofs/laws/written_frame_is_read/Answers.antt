use Rattle.pbf_frame.proofs.ReadBack.{written_is_frame, written_bytes}
use Rattle.pbf_frame.proofs.laws.written_frame_is_read.Goals as goal

pub returns-clause-sound : goal.returns-clause-sound
returns-clause-sound c = λ limit h place k payload known small ordered. written_is_frame place k payload known small limit h ordered

pub returns-clause-bytes : goal.returns-clause-bytes
returns-clause-bytes c = written_bytes
