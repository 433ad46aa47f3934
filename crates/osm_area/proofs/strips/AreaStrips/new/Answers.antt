use Rattle.std.proofs.Common.{◌≡◌, sym, ap, subst, ◌∙◌, arith, rules}
use Rattle.osm_area.specs.declared.strips.AreaStrips.{AreaStrips}
use Rattle.osm_area.proofs.StripLemmas.{are_asked}
use Rattle.osm_area.proofs.strips.AreaStrips.new.Goals as goal

pub returns : goal.returns
returns c =
    let made : AreaStrips = record { span = c.span_between-span.result; strips = c.in_ok-strips.strips } in
    are_asked made c.args.boxes.now (search rules) (search rules) (search rules)
