use Rattle.pbf_block.proofs.EntityLaw.{way_read, way_no_wire, way_no_structure, way_no_value}
use Rattle.pbf_block.proofs.laws.written_way_is_read.Goals as goal

pub returns : goal.returns
returns c = record { read = way_read; wire = way_no_wire; structure = way_no_structure; values = way_no_value }
