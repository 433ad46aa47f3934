use Rattle.std.proofs.Common.{rules}
use Rattle.pbf_pass.specs.EachArea.{member_areas}
use Rattle.pbf_pass.proofs.EachAreaLemmas.{asks_areas}
use Rattle.pbf_pass.proofs.each_area.strips_for.Goals as goal

pub returns : goal.returns
returns g c = asks_areas (member_areas g.A.Area.area c.args.members.now) c.in_ok-strips.strips c.in_ok-boxes.boxes.items c.in_ok-boxes.ensures.are c.in_ok-boxes.ensures.within (search rules)
