use Rattle.std.proofs.Common.{sym, ◌∙◌}
use Rattle.std.proofs.lemmas.Bool.{eqb-true}
use Rattle.pbf_block.proofs.PlainLemmas.{info_fields}
use Rattle.pbf_block.proofs.plain.plain_info.Goals as goal

pub returns : goal.returns
returns c =
    let none = eqb-true _ _ (sym c.is_empty.ensures ∙ c.if-not-is_empty.false) in
    λ at. info_fields at _ _ _ _ _ _ _ c.in_ok-version.ensures c.in_ok-timestamp.ensures c.in_ok-changeset.ensures c.in_ok-uid.ensures c.in_ok-user.ensures none
