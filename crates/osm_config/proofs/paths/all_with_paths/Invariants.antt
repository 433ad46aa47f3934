use Rattle.std.proofs.Common.{◌≡◌, ◌++◌, map}
use Rattle.osm_config.specs.Paths.{with_paths}
use Rattle.osm_config.specs.Readings.{extract_member_of}
use Rattle.osm_config.proofs.paths.all_with_paths.Given as goal

-- those that are left give, after those that are placed, what all give
abbrev pub invariant-loop-extract : goal.invariant-loop-extract
invariant-loop-extract l = map extract_member_of l.placed.items ++ map (with_paths l.fn.config l.fn.folder) (map extract_member_of l.extract-iterator.rest.items)
    ≡ map (with_paths l.fn.config l.fn.folder) (map extract_member_of l.fn.extracts.items)
