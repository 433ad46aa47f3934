use Rattle.std.proofs.Common.{◌∙◌, sym, ap}
use Rattle.pbf_wire.specs.Least.{least}
use Rattle.pbf_wire.specs.Cursors.{column_left, place_of_number}
use Rattle.pbf_wire.specs.Faults.{is_allowed}
use Rattle.pbf_wire.proofs.RisingLemmas.{not_good, running}
use Rattle.pbf_wire.proofs.values.judge_each_value.Goals as goal

pub returns-then-not-add_entry : goal.returns-then-not-add_entry
returns-then-not-add_entry c =
    let so_far = c.loop-entry in
    let left = c.in-Some.ensures.placed in
    let good = is_allowed c.args.signed c.args.limit in
    rw c.place.ensures (
    sym (not_good good c.args.reason c.args.narrow so_far.sum.total c.in-Some.entry (place_of_number c.next.new.self) (column_left c.next.new.self)
    (rw left at so_far.invariant.rising)
    (sym c.add_entry.ensures.good ∙ c.if-not-add_entry.true))
    ∙ ap (λ w. least (running good c.args.reason c.args.narrow so_far.sum.total w)) (sym left) ∙ so_far.invariant.faults)
