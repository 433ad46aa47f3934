use Rattle.std.proofs.Common.{rules}
use Rattle.osm_area.specs.Area.{box_area}
use Rattle.osm_ways.proofs.Boxes.{inside_wider}
use Rattle.pbfcut.proofs.KeptLaw.{runs_compose}
use Rattle.pbfcut.proofs.laws.extracts_compose.Goals as goal

pub returns : goal.returns
returns c narrow wide wider h file part cut counts fewer low first second = runs_compose narrow wide wider (box_area c.args.area) (box_area c.args.small) (search rules) (inside_wider c.args.small c.args.area h) file part cut counts fewer low first second
