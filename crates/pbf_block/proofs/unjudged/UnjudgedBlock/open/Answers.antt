use Rattle.std.proofs.Common.{List, ℕ, length, ap, sym, ◌∙◌, arith}
use Rattle.std.specs.Result.{is_err}
use Rattle.pbf_wire.specs.Reading.{occurrence_text}
use Rattle.pbf_wire.specs.Wire.{ok_unless}
use Rattle.pbf_strings.specs.Texts.{count_fault}
use Rattle.pbf_block.proofs.PayloadLemmas.{no_fault, table_short, many_texts}
use Rattle.pbf_block.proofs.unjudged.UnjudgedBlock.open.Goals as goal

pub returns-then-is_err-clause-faulty : goal.returns-then-is_err-clause-faulty
returns-then-is_err-clause-faulty c = λ is sound.
    let bytes = c.occurrence_text-texts.ensures ∙ ap occurrence_text c.last_field.ensures in
    let counted = c.judge_count.ensures ∙ ap (λ (w : List ℕ). ok_unless (count_fault c.args.at w)) bytes in
    many_texts c.args.at c.args.at c.args.payload.now (ap is_err (sym counted) ∙ sym c.is_err.ensures.value ∙ c.if-is_err.true) (no_fault c.args.at c.args.payload.now sound).1

pub open-requires-clause-short : goal.open-requires-clause-short
open-requires-clause-short c =
    let bytes = c.occurrence_text-texts.ensures ∙ ap occurrence_text c.last_field.ensures in
    omega (arith, ap (λ (w : List ℕ). length w) bytes, table_short c.args.at c.args.payload.now, c.requires.short)
