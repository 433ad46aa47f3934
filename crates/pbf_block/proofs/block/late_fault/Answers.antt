use Rattle.std.proofs.Common.{◌≡◌, ◌≤◌, ◌^◌, List, [], length, ap, ap₂, sym, ◌∙◌, ℕ, arith}
use Rattle.std.specs.Option.{option_or}
use Rattle.std.specs.List.{flat_map}
use Rattle.pbf_wire.specs.Least.{least}
use Rattle.pbf_wire.specs.Faults.{fields_in}
use Rattle.pbf_wire.proofs.SoundLemmas.{no_least}
use Rattle.pbf_block.specs.Group.{in_group, member_weights}
use Rattle.pbf_block.specs.PrimitiveBlock.{payload_weights, value_faults, indexed}
use Rattle.osm_entity.specs.declared.scale.Scale.{Scale}
use Rattle.pbf_block.specs.Scale.{scale_of, stored_texts}
use Rattle.pbf_block.proofs.PayloadLemmas.{payload_clean}
use Rattle.pbf_block.proofs.ByIndexLemmas.{weights_same}
use Rattle.pbf_block.proofs.block.late_fault.Goals as goal

module _ (table : List (List ℕ)) (at : ℕ) (m : List ℕ) (texts : table ≡ stored_texts (fields_in at m)) where
  values_are : value_faults (length table) at m ≡ value_faults (length (stored_texts (fields_in at m))) at m
  values_are = ap (λ (t : List (List ℕ)). value_faults (length t) at m) texts

  weights_are : (scale : Scale) → scale ≡ scale_of (fields_in at m) → flat_map (in_group (member_weights indexed table scale)) (fields_in at m) ≡ payload_weights at m
  unfolding payload_weights
  weights_are scale scaled = ap₂ (λ (t : List (List ℕ)) (s : Scale). flat_map (in_group (member_weights indexed t s)) (fields_in at m)) texts scaled

pub returns : goal.returns
returns c =
    let at = c.args.payload.at in
    let m = c.args.payload.bytes.now in
    let table = c.args.table.now in
    let none : value_faults (length table) at m ≡ [] = no_least _ (sym (c.value_fault.ensures ∙ ap (λ n. least (value_faults n at m)) c.len.ensures.exact) ∙ c.in_default.is) in
    let few : length table ≤ 2 ^ 62 = omega (arith, c.len.ensures.exact, c.len.ensures.few) in
    let same = weights_same table few c.args.scale (fields_in at m) (payload_clean (length table) at m c.requires.wire c.requires.structure none) in
    c.judge_weights.ensures ∙ ap least same ∙ ap least (weights_are table at m c.requires.texts c.args.scale c.requires.scale)
    ∙ sym (ap (λ f. option_or (least f) (least (payload_weights at m))) (sym (values_are table at m c.requires.texts) ∙ none))
