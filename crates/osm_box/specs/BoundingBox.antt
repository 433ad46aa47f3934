-- A box between four edges.
use Rattle.std.specs.Prelude.{ℤ, pos, neg_ℤ, Bool, not, ◌&&◌, int_le, int_lt, if◌then◌else◌, Result, Ok, Err}
use Rattle.osm_box.specs.declared.bounding_box.BoundingBox.{BoundingBox}
use Rattle.osm_box.specs.declared.bounding_box.BoxFault.{BoxFault}
use Rattle.osm_box.specs.declared.bounding_box.BoxFault.TheVariants.{Range, LeftOverRight, BottomOverTop}

-- a number is from low to high
abbrev pub is_between : ℤ → ℤ → ℤ → Bool
is_between low high number = int_le low number && int_le number high

-- it is from -limit to limit
unfoldable pub is_up_to : ℤ → ℤ → Bool
is_up_to limit number = is_between (neg_ℤ limit) limit number

-- the box of these edges, or that two of them are the wrong way round
abbrev pub box_of_ordered : ℤ → ℤ → ℤ → ℤ → Result BoundingBox BoxFault
box_of_ordered left bottom right top =
    if int_lt right left then Err LeftOverRight
    else (if int_lt top bottom then Err BottomOverTop
    else Ok (record { left = left; bottom = bottom; right = right; top = top }))

-- the box of these edges in nanodegrees, or the fault with the least number
abbrev pub box_of_edges : ℤ → ℤ → ℤ → ℤ → Result BoundingBox BoxFault
box_of_edges left bottom right top =
    if not (is_up_to (pos 180000000000) left && is_up_to (pos 180000000000) right) then Err Range
    else (if not (is_up_to (pos 90000000000) bottom && is_up_to (pos 90000000000) top) then Err Range
    else box_of_ordered left bottom right top)

-- a place in nanodegrees is in the box, edges included
abbrev pub is_inside : BoundingBox → ℤ → ℤ → Bool
is_inside area lat lon = is_between area.bottom area.top lat && is_between area.left area.right lon

-- the one box lies in the other, edges included: two opposite corners of it do
abbrev pub is_box_within : BoundingBox → BoundingBox → Bool
is_box_within small large =
    is_inside large small.bottom small.left && is_inside large small.top small.right
