-- A Node: its faults phase by phase, and what it says. Its wire faults are those of its fields, `NODE_KINDS`, and of its Infos.
use Rattle.std.specs.Prelude.{ℕ, pos, List, ◌++◌}
use Rattle.pbf_wire.specs.declared.fault.Fault.{Fault}
use Rattle.pbf_wire.specs.Faults.{embedded, fields_in, in_last, missing}
use Rattle.pbf_wire.specs.Occurrence.{Occurrence}
use Rattle.pbf_wire.specs.Signed.{unzigzag}
use Rattle.osm_entity.specs.declared.scale.Scale.{Scale}
use Rattle.osm_entity.specs.Entity.{NodeSpec}
use Rattle.pbf_block.specs.declared.entity.TheConstants.{ID, INFO}
use Rattle.pbf_block.specs.declared.node.TheConstants.{NODE_LAT, NODE_LON}
use Rattle.pbf_block.specs.Entity.{entity_structure, entity_values, tags_in}
use Rattle.pbf_block.specs.Info.{info_in, out_of_range}
use Rattle.pbf_block.specs.Scale.{number_or}

abbrev pub node_structure : ℕ → ℕ → List ℕ → List Fault
node_structure place at m = let os = fields_in at m in entity_structure place os ++ missing NODE_LAT place os ++ missing NODE_LON place os

-- if the table has as many texts as the limit
abbrev pub node_values : ℕ → ℕ → ℕ → List ℕ → List Fault
node_values limit place at m =
    let os = fields_in at m in
    in_last ID (out_of_range 62 unzigzag) os ++ entity_values limit os
    ++ in_last NODE_LAT (out_of_range 62 unzigzag) os ++ in_last NODE_LON (out_of_range 62 unzigzag) os

unfoldable pub node_in : List (List ℕ) → Scale → List Occurrence → NodeSpec
node_in table scale os = record {
  id = number_or (pos 0) unzigzag ID os;
  lat = number_or (pos 0) unzigzag NODE_LAT os;
  lon = number_or (pos 0) unzigzag NODE_LON os;
  meta = info_in table (embedded INFO os);
  tags = tags_in table os;
  scale = scale;
}
