use Rattle.std.proofs.Common.{refl, ap, ◌∙◌}
use Rattle.pbfcut.specs.Pick.{picks_of, take_of}
use Rattle.pbfcut.proofs.writing_each.AreaWriter.new.Goals as goal

pub returns : goal.returns
unfolding take_of
returns g c = record {
  area = refl;
  drain = c.new.ensures.drain;
  chosen = refl;
  picks = ap picks_of c.new-2.ensures.picker ∙ c.of_taken-picker.ensures;
  number_is = c.new-2.ensures.number;
  counts = c.new-2.ensures.counts ∙ c.none.ensures;
  fresh = record { no_header = c.new.ensures.no_header; packing = c.new.ensures.packing; none = c.new.ensures.none };
}
