use Rattle.pbf_wire.proofs.PackedLemmas.{held_last, pushed_deltas, same_value, appended}
use Rattle.pbf_wire.proofs.delta_out.DeltaOut.push.Goals as goal

pub invariant_of-self-2 : goal.invariant_of-self-2
invariant_of-self-2 c =
    let d = c.self.inside in
    let bytes = appended d.bytes.items _ c.args.value d.last _ c.requires (held_last _ _ _ c.self.invariant) c.zigzag.ensures c.in_ok-put_varint.ensures.ok in
    rw (bytes, same_value c.args.value c.requires) (pushed_deltas d.bytes.items d.last c.args.value c.self.invariant c.requires)
