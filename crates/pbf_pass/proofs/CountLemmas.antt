-- Entities, counted.
use Rattle.std.proofs.Common.{◌≡◌, List, [], ◌∷◌, ◌++◌, ap, ◌∙◌}
use Rattle.std.proofs.lemmas.List.{append-nil}
use Rattle.std.proofs.lemmas.Grind.{flat_map-append}
pub use Rattle.pbf_block.proofs.NumberLemmas.{same_counts, counts_together}
use Rattle.osm_entity.specs.Entity.{EntitySpec}
use Rattle.pbf_frame.specs.Frames.{FrameSpec}
use Rattle.pbf_pass.specs.Counting.{frame_entities, stored_entities}

pub stored_one : (fs : List FrameSpec) (f : FrameSpec) → stored_entities (fs ++ f ∷ []) ≡ stored_entities fs ++ frame_entities f
stored_one fs f = flat_map-append frame_entities fs (f ∷ []) ∙ ap (λ (l : List EntitySpec). stored_entities fs ++ l) (append-nil (frame_entities f))
