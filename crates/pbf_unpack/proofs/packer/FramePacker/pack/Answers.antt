use Rattle.std.proofs.Common.{rules}
use Rattle.pbf_unpack.specs.Packed.{HoldsPacked}
use Rattle.pbf_unpack.specs.RawFrames.{IsFrameOf}
use Rattle.pbf_unpack.proofs.FrameHeld.{one_frame, packed_is_past}
use Rattle.pbf_unpack.proofs.packer.FramePacker.pack.Goals as goal

pub returns-then-not-stands-clause-past : goal.returns-then-not-stands-clause-past
returns-then-not-stands-clause-past c none =
    let front = c.args.frame.now.front.items in
    let blob = c.args.frame.now.blob.items in
    let is : IsFrameOf c.in-Some.raw.kind front blob = rw (c.deref.ensures.value, c.deref-2.ensures.value) at c.in-Some.ensures.frame in
    let has : HoldsPacked c.in-Some.raw.kind c.in-Some.raw.blob_at blob = search rules in
    packed_is_past c.in-Some.raw.kind c.in-Some.raw.blob_at c.args.place front blob is has

pub returns-then-branch-clause-one : goal.returns-then-branch-clause-one
returns-then-branch-clause-one c = one_frame c.in-Some.raw.kind c.args.frame.now.front.items c.args.frame.now.blob.items (rw (c.deref.ensures.value, c.deref-2.ensures.value) at c.in-Some.ensures.frame)

pub returns-clause-one : goal.returns-clause-one
returns-clause-one c = one_frame c.in-Some.raw.kind c.args.frame.now.front.items c.args.frame.now.blob.items (rw (c.deref.ensures.value, c.deref-2.ensures.value) at c.in-Some.ensures.frame)
