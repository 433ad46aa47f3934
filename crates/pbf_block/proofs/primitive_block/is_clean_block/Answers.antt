use Rattle.std.proofs.Common.{◌≡◌, sym, ◌∙◌, rules}
use Rattle.std.specs.Prelude.{None}
use Rattle.pbf_block.proofs.PlainLemmas.{clean_block}
use Rattle.pbf_block.proofs.primitive_block.is_clean_block.Goals as goal

pub returns : goal.returns
returns c = λ clean.
    let m = c.args.payload in
    let table : c.judge_table.result ≡ None = search rules in
    let scale : c.judge_scale.result ≡ None = search rules in
    let parts : c.judge_form.result ≡ None = search rules in
    clean_block c.args.limit m.at m.bytes.now (sym table ∙ c.judge_table.ensures) (sym scale ∙ c.judge_scale.ensures) (sym parts ∙ c.judge_form.ensures)
