use Rattle.std.proofs.Common.{◌∙◌, ap}
use Rattle.osm_pack.specs.Likenesses.{is_like}
use Rattle.osm_pack.proofs.OpenLemmas.{taken}
use Rattle.osm_pack.proofs.open_block.OpenBlock.takes.Goals as goal

pub returns : goal.returns
returns g c = λ es e is h. taken c.args.self.now es e _ _ _ h (c.is_alike-is_alike.ensures ∙ ap (is_like c.args.self.now.likeness) is.likeness) is.weight c.may_join.ensures
