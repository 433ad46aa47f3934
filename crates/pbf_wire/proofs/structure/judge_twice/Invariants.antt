use Rattle.std.proofs.Common.{◌≡◌, ◌==◌, map, drop, if◌then◌else◌}
use Rattle.std.specs.Prelude.{filter}
use Rattle.pbf_wire.specs.declared.fault.Reason.TheVariants.{TwiceMessage}
use Rattle.pbf_wire.specs.Least.{lesser, least}
use Rattle.pbf_wire.specs.Cursors.{found_left}
use Rattle.pbf_wire.specs.Faults.{fault, twice, found_in}
use Rattle.pbf_wire.proofs.structure.judge_twice.Given as goal

abbrev pub invariant-loop-field : goal.invariant-loop-field
invariant-loop-field l = record {
  can : (goal.iterator-loop-field).can_next l.field-iterator;
  ends : (goal.iterator-loop-field).is_finite l.field-iterator;
  so_far : (let left = filter (λ o. o.number == l.number) (found_left l.field-iterator) in lesser l.least (least (map (λ o. fault o.place TwiceMessage) (if l.seen then left else drop 1 left)))) ≡ least (twice l.number (found_in l.message));
}
