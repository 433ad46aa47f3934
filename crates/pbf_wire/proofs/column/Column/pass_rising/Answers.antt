use Rattle.std.proofs.Common.{◌++◌, map, take, drop, ap, refl, subst, ◌∙◌}
use Rattle.std.proofs.lemmas.List.{take_rest}
use Rattle.pbf_wire.specs.Columns.{entries, read_entries, placed, joined}
use Rattle.pbf_wire.specs.Cursors.{column_left, found_left}
use Rattle.pbf_wire.specs.Rising.{AreRising}
use Rattle.pbf_wire.proofs.RisingRuns.{run_read, placed_run}
use Rattle.pbf_wire.proofs.column.Column.pass_rising.Goals as goal

pub returns-clause-passed : goal.returns-clause-passed
unfolding column_left
returns-clause-passed c =
    let s = c.args.self.now in
    let bytes = s.packed.now in
    let more = joined s.number (found_left s.fields) in
    let h : AreRising (take 16 bytes) c.in_ok-rise.rise = subst (λ xs. AreRising xs c.in_ok-rise.rise) c.in_ok-first_chunk.ensures.cases.same c.in_ok-rise.ensures in
    rw take_rest (ap (λ ns. map (λ p. p.0) (placed s.packed_place ns ++ more)) (run_read bytes (take 16 bytes) c.in_ok-rise.rise refl h) ∙ placed_run (take 16 bytes) (read_entries (entries (drop 16 bytes))) s.packed_place more)
