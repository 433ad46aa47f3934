-- How the tags of a node are taken from their column.
use Rattle.std.specs.Prelude.{◌≡◌, ℕ, List, map}
use Rattle.pbf_wire.specs.declared.column.Column.{Column}
use Rattle.pbf_wire.specs.Cursors.{numbers_left}
use Rattle.osm_entity.specs.declared.tags.Tags.{Tags}
use Rattle.osm_entity.specs.Sources.{low_32, run_tags, tags_left}
use Rattle.pbf_dense.specs.Runs.{after_run}

-- the next 0 in key place is passed, and all before it
abbrev pub PassesRun : Column → Column → Type 0
PassesRun old new = map low_32 (numbers_left new) ≡ after_run (map low_32 (numbers_left old))

-- the tags are those of the next node, whose run is passed
pub record TakesTags (texts : List (List ℕ)) (old new : Column) (taken : Tags) : Type 0 where
  pub tags : tags_left taken ≡ run_tags texts (numbers_left old)
  pub rest : PassesRun old new
