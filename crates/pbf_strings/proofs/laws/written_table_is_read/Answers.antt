use Rattle.pbf_strings.proofs.WrittenTable.{written_texts, written_sound}
use Rattle.pbf_strings.proofs.laws.written_table_is_read.Goals as goal

pub returns : goal.returns
returns c = record { texts = written_texts; sound = written_sound }
