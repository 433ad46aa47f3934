use Rattle.std.proofs.Common.{◌≡◌, length}
use Rattle.osm_polygon.specs.Groups.{is_in_groups}
use Rattle.osm_polygon.proofs.groups.any_group_has.Given as goal

-- none of those before has it
abbrev pub invariant-groups : goal.invariant-groups
invariant-groups l = is_in_groups l.fn.groups l.place.lat l.place.lon ≡ is_in_groups l.rest l.place.lat l.place.lon

abbrev pub decreases-groups : goal.decreases-groups
decreases-groups l = length l.rest
