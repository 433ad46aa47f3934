use Rattle.std.proofs.Common.{ap, sym, ◌∙◌, rules, List, [], ◌≡◌}
use Rattle.std.specs.List.{flat_map}
use Rattle.pbf_wire.specs.Faults.{found_in}
use Rattle.pbf_wire.specs.Occurrence.{Occurrence}
use Rattle.pbf_block.specs.Group.{member_entities}
use Rattle.pbf_block.specs.Numbers.{counted_with, counts_of, counting}
use Rattle.pbf_block.specs.Runs.{group_fields_left}
use Rattle.pbf_block.proofs.RunLemmas.{members_give}
use Rattle.pbf_block.proofs.counts.count_entities.Goals as goal

pub returns : goal.returns
returns c = λ table scale.
    let f = member_entities counting table scale in
    let all = c.loop-field.invariant in
    let none : group_fields_left c.loop-field.field-iterator ≡ [] = search rules in
    sym all.capped ∙ ap (λ (ms : List Occurrence). counted_with c.loop-field.counts (counts_of (flat_map f ms))) (sym none)
    ∙ all.so_far table scale ∙ ap counts_of (members_give f (found_in c.args.payload))
