-- The entities of a file as they are stored. They are counted as those of a block are.
use Rattle.std.specs.Prelude.{List, []}
use Rattle.std.specs.List.{flat_map}
use Rattle.osm_entity.specs.Entity.{EntitySpec}
pub use Rattle.pbf_block.specs.Numbers.{nodes_of, ways_of, relations_of, capped, counted_with, counts_of, count_one}
use Rattle.pbf_block.specs.PrimitiveBlock.{entities}
use Rattle.pbf_frame.specs.Frames.{FrameSpec}
use Rattle.pbf_pass.specs.Payload.{Payload, primitive_block, payload_of}

-- ---- the entities of frames

-- of a payload
abbrev pub entities_in : Payload → List EntitySpec
entities_in (primitive_block at message) = entities at message
entities_in _ = []

abbrev pub frame_entities : FrameSpec → List EntitySpec
frame_entities f = entities_in (payload_of f)

-- of all frames, in order
abbrev pub stored_entities : List FrameSpec → List EntitySpec
stored_entities frames = flat_map frame_entities frames
