use Rattle.std.proofs.Common.{rules, tests, ◌≡◌, ◌==◌}
use Rattle.std.proofs.lemmas.Iterator.Consumers.{YieldsList-from_first}
use Rattle.std.proofs.lemmas.Iterator.Search.{any_from_yields_List}
use Rattle.std.specs.List.{list_any}
use Rattle.pbf_wire.specs.Cursors.{found_left}
use Rattle.pbf_wire.specs.Faults.{found_in}
use Rattle.pbf_wire.specs.Fields.{occurrence}
use Rattle.pbf_wire.specs.Occurrence.{Occurrence}
use Rattle.pbf_wire.proofs.structure.judge_missing.Goals as goal

pub returns : goal.returns
returns c =
    let is_there : c.any-is_there.result ≡ list_any (λ o. o.number == c.args.number) (found_in c.args.message) =
    any_from_yields_List (λ (o : Occurrence). o.number == c.args.number) _ _ _ c.any-is_there.ensures.ran
    (YieldsList-from_first occurrence found_left _ c.found.ensures) (λ x b q k. search (rules, tests)) in
    search (rules, is_there)
