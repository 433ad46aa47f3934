use Rattle.std.proofs.Common.{◌≡◌, ◌++◌, ℕ, List, map, take, drop, replicate, ap, subst, ◌∙◌, arith}
use Rattle.std.proofs.lemmas.List.{take_rest}
use Rattle.pbf_wire.specs.Columns.{entries, read_entries, placed, joined}
use Rattle.pbf_wire.specs.Cursors.{column_left, found_left}
use Rattle.pbf_wire.proofs.RisingRuns.{all_read, placed_run, single, zeros_front, zeros_halved}
use Rattle.pbf_wire.proofs.column.Column.pass_zeros.Goals as goal

pub returns-clause-passed : goal.returns-clause-passed
unfolding column_left
returns-clause-passed c =
    let s = c.args.self.now in
    let n = c.min-zeros.result in
    let bytes = s.packed.now in
    let more = joined s.number (found_left s.fields) in
    let are = subst (λ xs. take c.zeros_of.result xs ≡ replicate c.zeros_of.result 0) c.in-Some.ensures.cases.same c.zeros_of.ensures.zeros in
    let whole = zeros_front bytes c.zeros_of.result n are c.zeros_of.ensures.few (omega (arith, c.min-zeros.ensures)) in
    let read = ap (λ (w : List ℕ). read_entries (entries w)) whole ∙ all_read (replicate n 0) (drop n bytes) (single (replicate n 0) (zeros_halved n)) in
    rw take_rest (ap (λ ns. map (λ p. p.0) (placed s.packed_place ns ++ more)) read ∙ placed_run (replicate n 0) (read_entries (entries (drop n bytes))) s.packed_place more)
