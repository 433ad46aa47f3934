use Rattle.osm_ids.specs.Windows.{IsOf}
use Rattle.entity_tests.proofs.ids.agrees.Given as goal

-- what the window holds is true of the set
abbrev pub invariant-loop-id : goal.invariant-loop-id
invariant-loop-id l = record { of : IsOf l.set l.window }
