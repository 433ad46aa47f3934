-- Entities, counted part by part.
use Rattle.std.proofs.Common.{◌≡◌, ℕ, List, [], ◌∷◌, ◌++◌, ap, ◌∙◌, arith, length, map}
use Rattle.std.specs.List.{sum_by}
use Rattle.std.proofs.lemmas.List.Sums.{sum_by-append, sum_by-cons}
use Rattle.osm_entity.specs.Entity.{EntitySpec, NodeSpec, node}
use Rattle.pbf_block.specs.declared.counts.Counts.{Counts}
use Rattle.pbf_block.specs.Numbers.{nodes_of, ways_of, relations_of, capped, counted_with, counts_of}

pub same_counts : (c d : Counts) → c.nodes ≡ d.nodes → c.ways ≡ d.ways → c.relations ≡ d.relations → c ≡ d
same_counts c d a b e =
    ap (λ (n : ℕ). let x : Counts = record { nodes = n; ways = c.ways; relations = c.relations } in x) a
    ∙ ap (λ (n : ℕ). let x : Counts = record { nodes = d.nodes; ways = n; relations = c.relations } in x) b
    ∙ ap (λ (n : ℕ). let x : Counts = record { nodes = d.nodes; ways = d.ways; relations = n } in x) e

-- what two lists count is counted together
pub counts_together : (xs ys : List EntitySpec) → counted_with (counts_of xs) (counts_of ys) ≡ counts_of (xs ++ ys)
counts_together xs ys = same_counts (counted_with (counts_of xs) (counts_of ys)) (counts_of (xs ++ ys))
    (let s = sum_by-append nodes_of xs ys in omega (arith, s))
    (let s = sum_by-append ways_of xs ys in omega (arith, s))
    (let s = sum_by-append relations_of xs ys in omega (arith, s))

-- counts so far, and the parts still to come
pub counts_more : (c : Counts) (xs ys : List EntitySpec) → counted_with (counted_with c (counts_of xs)) (counts_of ys) ≡ counted_with c (counts_of (xs ++ ys))
counts_more c xs ys = same_counts (counted_with (counted_with c (counts_of xs)) (counts_of ys)) (counted_with c (counts_of (xs ++ ys)))
    (let s = sum_by-append nodes_of xs ys in omega (arith, s))
    (let s = sum_by-append ways_of xs ys in omega (arith, s))
    (let s = sum_by-append relations_of xs ys in omega (arith, s))

-- nothing is to come
pub counts_nothing : (c d : Counts) → counted_with (counted_with c d) (counts_of []) ≡ counted_with c d
counts_nothing c d = same_counts (counted_with (counted_with c d) (counts_of [])) (counted_with c d) (omega arith) (omega arith) (omega arith)

-- only nodes
node_numbers : (ns : List NodeSpec) → (sum_by nodes_of (map node ns) ≡ length ns) × (sum_by ways_of (map node ns) ≡ 0) × (sum_by relations_of (map node ns) ≡ 0)
node_numbers [] = (omega arith, omega arith, omega arith)
node_numbers (n ∷ ns) =
    let rest = node_numbers ns in
    (omega (arith, rest.0, sum_by-cons nodes_of (node n) (map node ns)), omega (arith, rest.1, sum_by-cons ways_of (node n) (map node ns)), omega (arith, rest.2, sum_by-cons relations_of (node n) (map node ns)))

pub nodes_counted : (ns : List NodeSpec) (c : Counts) → c.nodes ≡ capped (length ns) → c.ways ≡ 0 → c.relations ≡ 0 → c ≡ counts_of (map node ns)
nodes_counted ns c a b e =
    let all = node_numbers ns in
    same_counts c (counts_of (map node ns)) (omega (arith, a, all.0)) (omega (arith, b, all.1)) (omega (arith, e, all.2))
