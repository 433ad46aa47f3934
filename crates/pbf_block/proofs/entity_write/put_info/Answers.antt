use Rattle.std.proofs.Common.{rules, ◌≡◌}
use Rattle.std.specs.Option.{option_map}
use Rattle.pbf_wire.proofs.WritingLemmas.{one_more, last_slot}
use Rattle.pbf_dense.specs.WrittenDense.{bit_of}
use Rattle.pbf_block.specs.WrittenEntity.{info_message}
use Rattle.pbf_block.proofs.entity_write.put_info.Goals as goal

pub returns : goal.returns
unfolding info_message
returns c = λ texts e.
    let version : c.map.result ≡ c.args.meta.now.version = search rules in
    let uid : c.map-2.result ≡ c.args.meta.now.uid = search rules in
    let user : c.map-3.result ≡ c.args.user = search rules in
    let visible : c.map-4.result ≡ option_map bit_of c.args.meta.now.visible = search rules in
    search (rules, version, uid, user, visible, one_more, last_slot)
