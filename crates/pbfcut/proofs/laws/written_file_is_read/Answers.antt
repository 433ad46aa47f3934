use Rattle.pbfcut.proofs.FileLaw.{file_read}
use Rattle.pbfcut.proofs.laws.written_file_is_read.Goals as goal

pub returns : goal.returns
returns c = file_read
