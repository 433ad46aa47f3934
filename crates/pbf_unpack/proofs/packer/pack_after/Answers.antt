use Rattle.std.proofs.Common.{◌-◌, length, arith}
use borrow.Rule.Slice.PartMut.{post_of}
use Rattle.pbf_unpack.proofs.PackingLemmas.{put_after}
use Rattle.pbf_unpack.proofs.packer.pack_after.Goals as goal

pub returns-clause-stream : goal.returns-clause-stream
returns-clause-stream c = grind (arith, put_after 32 c.in_ok-length.length c.args.room.now c.deflate_into.new.out (post_of 32 (length c.args.room.now - 32) c.args.room.now) c.requires.room c.in_ok-length.ensures.within)
