use Rattle.std.proofs.Common.{◌-◌, ◌≡◌, ◌≤◌, drop, length, arith}
use Rattle.std.proofs.lemmas.List.{length-take, length-drop}
use Rattle.std.proofs.lemmas.Slice.{drop-put_mid}
use borrow.Rule.Slice.PartMut.{put_mid}
use Rattle.pbf_unpack.proofs.PackingLemmas.{ends_same}
use Rattle.pbf_unpack.proofs.packer.put_fields.Goals as goal

pub returns-clause-stream : goal.returns-clause-stream
returns-clause-stream c =
    let room = c.args.room.now in
    let start = 32 - c.fields_before-count.result.1 in
    let fields = c.copy_from_slice.new.self in
    let long : 32 ≤ length room = omega (arith, c.requires.stream, c.requires.room) in
    let same : drop 32 (put_mid start (32 - start) room fields) ≡ drop 32 room = drop-put_mid start (32 - start) room fields 32 (omega arith) (omega (arith, long)) (omega (arith, c.copy_from_slice.ensures.len, length-take (32 - start) (drop start room), length-drop start room, long)) in
    ends_same 32 c.args.end (put_mid start (32 - start) room fields) room c.requires.stream same
