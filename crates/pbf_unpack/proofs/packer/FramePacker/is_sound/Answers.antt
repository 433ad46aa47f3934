use Rattle.std.proofs.Common.{◌-◌, arith}
use Rattle.std.proofs.lemmas.List.{drop-take}
use Rattle.pbf_wire.specs.Occurrence.{items}
use Rattle.pbf_frame.specs.declared.frame.FrameKind.TheVariants as kind
use Rattle.pbf_unpack.specs.Packs.{packed_blob, packed_held}
use Rattle.pbf_unpack.proofs.PackingLemmas.{whole_packs, data_stands}
use Rattle.pbf_unpack.proofs.packer.FramePacker.is_sound.Goals as goal

pub returns-clause-means : goal.returns-clause-means
returns-clause-means c payload sound sized means = grind (arith, drop-take 32 (c.args.self.now.end - 32) c.args.self.now.room.items, data_stands c.args.kind c.in-Some.frame.blob_at (packed_held c.args.self.now) (packed_blob c.args.self.now) payload, whole_packs c.args.place)
