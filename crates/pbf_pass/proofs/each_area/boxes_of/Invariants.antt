use Rattle.std.proofs.Common.{◌≡◌, ◌++◌, length, map}
use Rattle.std.specs.List.{AllByRecursion}
use Rattle.pbf_pass.specs.EachArea.{IsBounded, member_areas}
use Rattle.pbf_pass.proofs.each_area.boxes_of.Given as goal

-- the boxes so far, and those of the areas that are left, are those of all
abbrev pub invariant-members : goal.invariant-members
invariant-members g l = record {
  are : l.boxes.items ++ map (λ area. area.bounds) (member_areas g.A.Area.area l.rest) ≡ map (λ area. area.bounds) (member_areas g.A.Area.area l.members);
  within : AllByRecursion IsBounded (member_areas g.A.Area.area l.rest) → AllByRecursion IsBounded (member_areas g.A.Area.area l.members);
}

abbrev pub decreases-members : goal.decreases-members
decreases-members g l = length l.rest
