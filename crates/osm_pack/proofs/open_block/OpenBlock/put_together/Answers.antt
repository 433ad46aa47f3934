use Rattle.std.proofs.Common.{◌∙◌, ◌++◌, List, ℕ, ap}
use Rattle.pbf_wire.specs.Message.{message}
use Rattle.pbf_block.specs.WrittenBlock.{block_slots}
use Rattle.osm_pack.proofs.OpenLemmas.{closed, closing_held}
use Rattle.osm_pack.proofs.open_block.OpenBlock.put_together.Goals as goal

pub returns-clause-payload : goal.returns-clause-payload
returns-clause-payload g c = λ es closing scale.
    closed c.args.self.now es c.args.scale c.args.table.now c.put_block.new.out.items closing scale (λ texts e.
    c.in_ok-put_block.ensures texts e
    ∙ (ap (λ (bs : List ℕ). bs ++ message (block_slots c.args.scale texts c.deref.result.now)) c.new-payload.ensures.items
    ∙ ap (λ (group : List ℕ). message (block_slots c.args.scale texts group)) c.deref.ensures.value))

pub returns-clause-room : goal.returns-clause-room
returns-clause-room g c = λ es closing scale. closing_held c.args.self.now es c.args.table.now c.put_block.new.out.items closing (returns-clause-payload g c es closing scale)
