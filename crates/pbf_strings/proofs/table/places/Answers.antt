use Rattle.std.proofs.Common.{rules, sym, ap, ◌∙◌, subst}
use Rattle.std.specs.List.{AllByRecursion}
use Rattle.pbf_wire.specs.Cursors.{found_left}
use Rattle.pbf_wire.specs.Occurrence.{found}
use Rattle.pbf_strings.proofs.TextsLemmas.{IsAtPlace, all_at_place}
use Rattle.pbf_strings.proofs.table.places.Goals as goal

pub loop-field-init : goal.loop-field-init
loop-field-init c = record {
  can = tt;
  ends = tt;
  so_far = search rules;
  most = search rules;
  placed = subst (AllByRecursion (IsAtPlace c.args.message.now)) (sym (ap found_left c.into_iter-field-iterator.ensures.into_iter_gives ∙ c.found-field-items.ensures ∙ ap found c.new.ensures)) (all_at_place c.args.message.now);
}
