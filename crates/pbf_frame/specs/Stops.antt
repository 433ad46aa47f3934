-- The stop that a refused message makes.
use Rattle.pbf_wire.specs.declared.fault.ReadFault.{ReadFault}
use Rattle.pbf_wire.specs.declared.fault.ReadFault.TheVariants as read
use Rattle.pbf_frame.specs.declared.stop.Stop.{Stop}
use Rattle.pbf_frame.specs.declared.stop.Stop.TheVariants as stop

abbrev pub stop_of_fault : ReadFault → Stop
stop_of_fault (read.Refused f) = stop.Refused f
stop_of_fault read.Memory = stop.Memory
