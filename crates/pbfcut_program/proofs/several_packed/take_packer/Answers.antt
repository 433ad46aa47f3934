use Rattle.std.proofs.Common.{refl}
use Rattle.pbfcut_program.proofs.several_packed.take_packer.Goals as goal

pub returns : goal.returns
returns g c = record {
  finished = c.finish-result.new.drain;
  finishes = c.finish-result.ensures.ends;
  taken = c.finish-result.ensures.taken;
  drain = c.into_inner.ensures.drain;
  cut = refl;
  output = refl;
  meaning = refl;
  counts = refl;
}
