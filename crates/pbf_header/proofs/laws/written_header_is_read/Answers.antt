use Rattle.pbf_header.proofs.HeaderLaw.{header_read, header_sound, header_short, out_fits, light_read, light_sound}
use Rattle.pbf_header.proofs.laws.written_header_is_read.Goals as goal

pub returns : goal.returns
returns c = record { out = out_fits; read = header_read; sound = header_sound; short = header_short; light_read = light_read; light_sound = light_sound }
