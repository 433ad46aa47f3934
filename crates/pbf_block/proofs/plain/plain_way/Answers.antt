use Rattle.std.proofs.Common.{sym, ◌∙◌}
use Rattle.std.proofs.lemmas.Bool.{eqb-true}
use Rattle.pbf_block.proofs.PlainLemmas.{way_fields}
use Rattle.pbf_block.proofs.plain.plain_way.Goals as goal

pub returns : goal.returns
returns c =
    let none = eqb-true _ _ (sym c.is_empty.ensures ∙ c.if-not-is_empty.false) in
    λ at. way_fields at _ _ _ _ _ _ _ c.in_ok-id.ensures c.in_ok-keys.ensures c.in_ok-vals.ensures c.in_ok-info.ensures c.in_ok-refs.ensures none
