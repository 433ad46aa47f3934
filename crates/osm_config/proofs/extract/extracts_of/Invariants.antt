use Rattle.std.proofs.Common.{◌≡◌, [], map, drop}
use Rattle.json.specs.Value.{items_view}
use Rattle.osm_config.specs.Configs.{extracts_after}
use Rattle.osm_config.specs.Readings.{extract_member_of}
use Rattle.osm_config.proofs.extract.extracts_of.Given as goal

-- the items that are left give from here what all give from the start
abbrev pub invariant-loop-item : goal.invariant-loop-item
invariant-loop-item l = extracts_after (map extract_member_of l.extracts.items) (items_view (drop l.item-index l.item-items)) ≡ extracts_after [] (items_view l.item-items)
