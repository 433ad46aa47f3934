-- How many entities there are.
use Rattle.std.specs.Prelude.{ℕ, ◌+◌, ◌-◌, ◌^◌, min, List, map}
use Rattle.std.specs.List.{sum_by, range_with_len}
use Rattle.pbf_wire.specs.Sums.{sums}
use Rattle.osm_entity.specs.Entity.{EntitySpec, node, way, relation}
use Rattle.pbf_dense.specs.Judged.{id_count}
use Rattle.pbf_dense.specs.Nodes.{node_at}
use Rattle.pbf_block.specs.declared.counts.Counts.{Counts}
use Rattle.pbf_block.specs.Entity.{Decoding}

abbrev pub nodes_of : EntitySpec → ℕ
nodes_of (node n) = 1
nodes_of _ = 0

abbrev pub ways_of : EntitySpec → ℕ
ways_of (way w) = 1
ways_of _ = 0

abbrev pub relations_of : EntitySpec → ℕ
relations_of (relation r) = 1
relations_of _ = 0

-- a number as a u64, the greatest one if there are more
abbrev pub capped : ℕ → ℕ
capped n = min n (2 ^ 64 - 1)

-- what two counts are together
abbrev pub counted_with : Counts → Counts → Counts
counted_with c d = record {
  nodes = capped (c.nodes + d.nodes);
  ways = capped (c.ways + d.ways);
  relations = capped (c.relations + d.relations);
}

-- how many nodes, ways and relations there are
abbrev pub counts_of : List EntitySpec → Counts
counts_of es = record {
  nodes = capped (sum_by nodes_of es);
  ways = capped (sum_by ways_of es);
  relations = capped (sum_by relations_of es);
}

-- one more
abbrev pub count_one : Counts → EntitySpec → Counts
count_one c (node n) = record c { nodes = capped (c.nodes + 1) }
count_one c (way w) = record c { ways = capped (c.ways + 1) }
count_one c (relation r) = record c { relations = capped (c.relations + 1) }

-- the entities, where a dense message has a node for each byte that ends a varint in its column of ids
abbrev pub counting : Decoding
counting = record { values = sums; dense = λ table scale os. map (node_at table scale os) (range_with_len 0 (id_count os)) }
