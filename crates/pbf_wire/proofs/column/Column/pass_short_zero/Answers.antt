use Rattle.std.proofs.Common.{◌++◌, ap}
use Rattle.std.proofs.lemmas.List.{take_rest}
use Rattle.pbf_wire.specs.Columns.{placed, joined}
use Rattle.pbf_wire.specs.Cursors.{column_left, found_left}
use Rattle.pbf_wire.proofs.Columns.{zero_read}
use Rattle.pbf_wire.proofs.column.Column.pass_short_zero.Goals as goal

pub returns-clause-passed : goal.returns-clause-passed
unfolding column_left
returns-clause-passed c = λ _.
    let s = c.args.self.now in
    let more = joined s.number (found_left s.fields) in
    rw take_rest (ap (λ ns. placed s.packed_place ns ++ more) (zero_read s.packed.now c.in-len1-up.len_at_least c.if-first-ne0.false))
