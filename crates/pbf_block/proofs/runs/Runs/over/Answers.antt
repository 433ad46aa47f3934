use Rattle.std.proofs.Common.{List, map, ap, ◌∙◌}
use Rattle.std.specs.List.{flat_map}
use Rattle.std.proofs.lemmas.List.Folds.{flat_map-map}
use Rattle.pbf_wire.specs.Faults.{found_in}
use Rattle.pbf_wire.specs.Occurrence.{Occurrence}
use Rattle.osm_entity.specs.Entity.{EntitySpec}
use Rattle.pbf_block.specs.Kinds.{member_entities_among}
use Rattle.pbf_block.specs.PrimitiveBlock.{streaming}
use Rattle.pbf_block.specs.Runs.{joined_runs, group_members, runs_left}
use Rattle.pbf_block.proofs.RunLemmas.{members_give}
use Rattle.pbf_block.proofs.runs.Runs.over.Goals as goal

pub returns : goal.returns
unfolding runs_left
returns c =
    let f = member_entities_among c.args.kinds streaming c.args.table.now c.args.scale in
    let os = found_in c.args.payload in
    ap (λ (ms : List Occurrence). joined_runs (map f ms)) c.over.ensures ∙ flat_map-map (λ (es : List EntitySpec). es) f (flat_map group_members os) ∙ members_give f os
