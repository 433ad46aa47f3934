use Rattle.std.proofs.Common.{rules, ◌≡◌, ◌∙◌, ap, map, arith, length, List}
use Rattle.std.specs.List.{range_with_len}
use Rattle.std.proofs.lemmas.List.FromFn.{length-map-range_with_len}
use Rattle.osm_entity.specs.Entity.{NodeSpec, node}
use Rattle.pbf_wire.specs.Fields.{occurrence}
use Rattle.pbf_wire.specs.Faults.{fields_in}
use Rattle.pbf_dense.specs.Judged.{id_count}
use Rattle.pbf_dense.specs.Nodes.{node_at}
use Rattle.pbf_block.specs.declared.counts.Counts.{Counts}
use Rattle.pbf_block.specs.Group.{member_entities}
use Rattle.pbf_block.specs.Numbers.{counts_of, counting}
use Rattle.pbf_block.proofs.NumberLemmas.{nodes_counted}
use Rattle.pbf_block.proofs.counts.count_member.Goals as goal

pub returns-in-2 : goal.returns-in-2
returns-in-2 c = λ table scale.
    let os = fields_in c.in-Bytes.at c.in-Bytes.bytes.now in
    let nodes : List NodeSpec = map (node_at table scale os) (range_with_len 0 (id_count os)) in
    let counts : Counts = record { nodes = c.count.result; ways = c.none-counts.result.ways; relations = c.none-counts.result.relations } in
    let all : map node nodes ≡ member_entities counting table scale (occurrence c.args.field) = search rules in
    let long : length nodes ≡ id_count os = length-map-range_with_len (node_at table scale os) 0 (id_count os) in
    nodes_counted nodes counts (omega (arith, c.count.ensures.exact, long, c.count.type_inv)) (search rules) (search rules) ∙ ap counts_of all
