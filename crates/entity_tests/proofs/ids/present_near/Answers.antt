use Rattle.entity_tests.proofs.ids.present_near.Goals as goal

pub has-is_there-requires : goal.has-is_there-requires
has-is_there-requires c = c.new-window.ensures c.args.ids.now
