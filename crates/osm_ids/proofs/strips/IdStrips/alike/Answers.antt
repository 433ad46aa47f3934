use Rattle.std.proofs.Common.{◌∙◌, ap, w64}
use Rattle.std.proofs.lemmas.Int.{to_z-of_z}
use Rattle.osm_ids.specs.Strips.{id_run}
use Rattle.osm_ids.proofs.StripLemmas.{named_alike}
use Rattle.osm_ids.proofs.strips.IdStrips.alike.Goals as goal

pub returns : goal.returns
returns c = λ other inside. named_alike c.args.self.now c.args.id other (c.whole_run.ensures other inside ∙ ap (id_run c.args.self.now.runs) (to_z-of_z w64 c.args.id c.ranges.id))
