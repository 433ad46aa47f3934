use Rattle.std.proofs.Common.{refl}
use Rattle.pbf_pass.specs.Payload.{lent_by}
use Rattle.pbfcut.specs.Pick.{picks_of}
use Rattle.pbfcut.proofs.PackingLemmas.{keeps_same}
use Rattle.pbfcut.proofs.WritingLemmas.{none_picked, packs_none}
use Rattle.pbfcut.proofs.write.pack_payload.Goals as goal

pub returns-in-Header : goal.returns-in-Header
returns-in-Header g c =
    let frame = c.args.frame.now in
    let pick = picks_of c.args.entities.now.picker in
    record {
      packed = packs_none g.D.Drain pick (lent_by frame) c.args.packer.now c.args.entities.now.counts c.requires.1 (none_picked pick frame.kind frame.payload_at frame.payload.now c.in-Header.is);
      stopped = tt;
      keeps = keeps_same g.D.Drain c.args.packer.now c.requires.0;
      same = (refl, refl);
    }
