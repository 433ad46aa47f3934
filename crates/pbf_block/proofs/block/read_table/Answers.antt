use Rattle.std.proofs.Common.{List, length, ap, ◌∙◌, arith, ℕ}
use Rattle.pbf_strings.specs.Texts.{texts}
use Rattle.pbf_wire.specs.Reading.{occurrence_text}
use Rattle.pbf_block.proofs.PayloadLemmas.{table_short, table_few}
use Rattle.pbf_block.proofs.block.read_table.Goals as goal

pub open-requires-clause-short : goal.open-requires-clause-short
open-requires-clause-short c =
    let bytes = c.occurrence_text.ensures ∙ ap occurrence_text c.last_field.ensures in
    omega (arith, ap (λ (w : List ℕ). length w) bytes, table_short c.args.payload.at c.args.payload.bytes.now, c.requires.short)

pub open-requires-clause-few : goal.open-requires-clause-few
open-requires-clause-few c =
    let bytes = c.occurrence_text.ensures ∙ ap occurrence_text c.last_field.ensures in
    omega (arith, ap (λ (w : List ℕ). length (texts w)) bytes, table_few c.args.payload.at c.args.payload.bytes.now c.requires.structure)
