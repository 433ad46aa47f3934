use Rattle.std.proofs.Common.{rules, tests, ◌≡◌}
use Rattle.std.proofs.lemmas.Iterator.Consumers.{YieldsList-from_first}
use Rattle.std.proofs.lemmas.Iterator.Search.{find_from_yields_List}
use Rattle.std.specs.List.{find}
use Rattle.std.specs.Option.{option_map}
use Rattle.pbf_wire.specs.Cursors.{found_left}
use Rattle.pbf_wire.specs.Faults.{found_in}
use Rattle.pbf_wire.specs.Fields.{occurrence}
use Rattle.pbf_wire.specs.Occurrence.{Occurrence}
use Rattle.pbf_block.specs.Group.{holds_entities}
use Rattle.pbf_block.proofs.group.first_member.Goals as goal

pub returns : goal.returns
returns c =
    let first : option_map occurrence c.find-first.result ≡ find (λ o. holds_entities o.number) (found_in c.args.message) =
    find_from_yields_List (λ (o : Occurrence). holds_entities o.number) _ _ _ c.find-first.ensures.ran
    (YieldsList-from_first occurrence found_left _ c.found-fields.ensures) (λ x b q k. search (rules, tests)) in
    search (rules, first)
