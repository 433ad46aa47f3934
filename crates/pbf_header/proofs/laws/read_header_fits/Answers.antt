use Rattle.std.proofs.Common.{rules}
use Rattle.pbf_header.proofs.ReadHeaderLaw.{header_fits, header_fits_box}
use Rattle.pbf_header.proofs.laws.read_header_fits.Goals as goal

pub returns-clause-convert : goal.returns-clause-convert
returns-clause-convert c = header_fits

pub returns-clause-area : goal.returns-clause-area
returns-clause-area c at m = header_fits_box c.args.area at m (search rules)
