use Rattle.std.proofs.Common.{◌≡◌, ap, sym, ◌∙◌}
use Rattle.std.specs.Prelude.{Some, None}
use Rattle.pbf_block.specs.PrimitiveBlock.{wire_faults, structure_faults}
use Rattle.pbf_block.proofs.PayloadLemmas.{early_nil, first_early, first_late}
use Rattle.pbf_block.proofs.block.Block.read.Goals as goal

pub returns-in-Some-clause-refused : goal.returns-in-Some-clause-refused
returns-in-Some-clause-refused c = λ fault e. let same : c.in-Some.fault ≡ fault = cc in first_early c.in-Some.fault c.args.at c.args.payload.now c.in-Some.ensures ∙ ap Some same

pub read_table-requires-clause-structure : goal.read_table-requires-clause-structure
read_table-requires-clause-structure c = (early_nil (wire_faults c.args.at c.args.payload.now) (structure_faults c.args.at c.args.payload.now) (sym c.in_default.is ∙ c.early_fault.ensures)).1

pub late_fault-requires-clause-wire : goal.late_fault-requires-clause-wire
late_fault-requires-clause-wire c = (early_nil (wire_faults c.args.at c.args.payload.now) (structure_faults c.args.at c.args.payload.now) (sym c.in_default.is ∙ c.early_fault.ensures)).0

pub late_fault-requires-clause-structure : goal.late_fault-requires-clause-structure
late_fault-requires-clause-structure c = (early_nil (wire_faults c.args.at c.args.payload.now) (structure_faults c.args.at c.args.payload.now) (sym c.in_default.is ∙ c.early_fault.ensures)).1

pub returns-in-Some-late_fault-clause-refused : goal.returns-in-Some-late_fault-clause-refused
returns-in-Some-late_fault-clause-refused c = λ fault e.
    let none = early_nil (wire_faults c.args.at c.args.payload.now) (structure_faults c.args.at c.args.payload.now) (sym c.in_default.is ∙ c.early_fault.ensures) in
    let same : c.in-Some-late_fault.fault ≡ fault = cc in
    first_late (Some c.in-Some-late_fault.fault) c.args.at c.args.payload.now none.0 none.1 c.in-Some-late_fault.ensures ∙ ap Some same

pub returns-clause-sound : goal.returns-clause-sound
returns-clause-sound c =
    let none = early_nil (wire_faults c.args.at c.args.payload.now) (structure_faults c.args.at c.args.payload.now) (sym c.in_default.is ∙ c.early_fault.ensures) in
    first_late None c.args.at c.args.payload.now none.0 none.1 (sym c.in_default-late_fault.is ∙ c.late_fault.ensures)

pub invariant_of-result : goal.invariant_of-result
invariant_of-result c =
    let none = early_nil (wire_faults c.args.at c.args.payload.now) (structure_faults c.args.at c.args.payload.now) (sym c.in_default.is ∙ c.early_fault.ensures) in
    rw (c.new.ensures.at, c.new.ensures.payload) (first_late None c.args.at c.args.payload.now none.0 none.1 (sym c.in_default-late_fault.is ∙ c.late_fault.ensures))
