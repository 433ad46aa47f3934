use Rattle.entity_tests.proofs.ids.agrees.Goals as goal

pub loop-id-init : goal.loop-id-init
loop-id-init c = record { of = c.new-window.ensures c.args.set.now }
