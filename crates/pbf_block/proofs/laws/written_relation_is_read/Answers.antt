use Rattle.pbf_block.proofs.EntityLaw.{relation_read, relation_no_wire, relation_no_structure, relation_no_value}
use Rattle.pbf_block.proofs.laws.written_relation_is_read.Goals as goal

pub returns : goal.returns
returns c = record { read = relation_read; wire = relation_no_wire; structure = relation_no_structure; values = relation_no_value }
