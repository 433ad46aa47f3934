use Rattle.std.proofs.Common.{◌-◌, take-append-drop, arith}
use Rattle.pbf_unpack.proofs.PackingLemmas.{written_parts}
use Rattle.pbf_unpack.proofs.frame.RawFrame.is_written.Goals as goal

pub returns : goal.returns
returns c same = grind (arith, written_parts c.len-front.result (c.put_head-end.result - c.len-front.result) c.put_head-end.result c.put_head-end.new.room c.args.self.now.front.items c.args.self.now.blob.items c.split_at.result.0.now c.split_at.result.1.now c.args.payload.now, take-append-drop)
