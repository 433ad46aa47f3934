use Rattle.std.proofs.Common.{rules, arith, w64}
use Rattle.std.specs.Int.{from_le_bytes, to_le_bytes}
use Rattle.std.proofs.lemmas.Nat.{le_bytes_8}
use Rattle.pbf_strings.proofs.SameTexts.{told, small}
use Rattle.pbf_strings.proofs.table_out.same_eight.Goals as goal

pub returns : goal.returns
returns c =
    let one = c.in-Some-Some.one.now in
    let other = c.in-Some-Some.other.now in
    told (to_le_bytes w64) (from_le_bytes w64) _ _ one other _ _ (le_bytes_8 one _ (search rules) (small 8 _ one c.in-Some-Some.ensures.cases.enough c.in-Some-Some.ensures.cases.same (λ i. omega (arith, c.type_inv.one i))) c.from_le_bytes.ensures) (le_bytes_8 other _ (search rules) (small 8 _ other c.in-Some-Some.ensures'.cases.enough c.in-Some-Some.ensures'.cases.same (λ i. omega (arith, c.type_inv.other i))) c.from_le_bytes-2.ensures)
    c.from_le_bytes.ensures c.from_le_bytes-2.ensures c.in-Some-Some.ensures.cases.same c.in-Some-Some.ensures'.cases.same
