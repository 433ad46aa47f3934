use Rattle.entity_tests.proofs.ids.absent_so_far.Goals as goal

pub has_near-is_there-requires : goal.has_near-is_there-requires
has_near-is_there-requires c = c.new-window.ensures _
