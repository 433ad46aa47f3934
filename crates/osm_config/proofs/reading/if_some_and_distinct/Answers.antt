use Rattle.std.proofs.Common.{◌≤◌, ◌∙◌, [], length, map, Some, None, sym, ap, arith}
use Rattle.std.specs.String.{string_bytes}
use Rattle.std.proofs.lemmas.Bool.{eqb-false}
use Rattle.osm_config.specs.Configs.{repeated_after}
use Rattle.osm_config.proofs.ConfigLemmas.{distinct_by}
use Rattle.osm_config.proofs.reading.if_some_and_distinct.Goals as goal

pub returns-in-Some : goal.returns-in-Some
returns-in-Some c =
    let found = sym c.in-Some.is ∙ (c.in_ok-number.ensures ∙ ap (λ es. repeated_after [] (map (λ e. string_bytes e.output) es)) c.as_slice.ensures.value) in
    let some : 1 ≤ length c.args.extracts.items = omega (arith, eqb-false _ _ (sym c.is_empty.ensures ∙ c.if-is_empty.false), c.args.extracts.ok.0) in
    distinct_by c.args.extracts.items (Some c.in-Some.number) found some

pub returns : goal.returns
returns c =
    let found = sym c.in-None.is ∙ (c.in_ok-number.ensures ∙ ap (λ es. repeated_after [] (map (λ e. string_bytes e.output) es)) c.as_slice.ensures.value) in
    let some : 1 ≤ length c.args.extracts.items = omega (arith, eqb-false _ _ (sym c.is_empty.ensures ∙ c.if-is_empty.false), c.args.extracts.ok.0) in
    distinct_by c.args.extracts.items None found some
