use Rattle.pbf_header.specs.HeaderFaults.{header_phases, header_fault}
use Rattle.pbf_wire.proofs.PhaseLemmas.{phases_joined}
use Rattle.pbf_header.proofs.laws.header_phases_are_one_order.Goals as goal

pub returns : goal.returns
unfolding header_fault
returns c at m = phases_joined 8 (header_phases at m)
