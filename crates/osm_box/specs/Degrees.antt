-- The box of a text "left,bottom,right,top" in degrees.
use Rattle.std.specs.Prelude.{ℕ, ℤ, pos, neg_ℤ, Bool, ◌&&◌, ◌+◌, ◌-◌, ◌*◌, ◌^◌, ◌==◌}
use Rattle.std.specs.Prelude.{List, length, drop, nat_le, nat_lt, codes, slice_index, if◌then◌else◌}
use Rattle.std.specs.Prelude.{Option, Some, None, Result, Err, is_some, option_map, option_and_then, unwrap_or}
use Rattle.std.specs.List.{list_all, position_or_len, before_first, after_first}
use Rattle.std.specs.Char.{is_ascii_digit}
use Rattle.std.specs.Str.Parse.{digits_value}
use Rattle.osm_box.specs.declared.bounding_box.BoundingBox.{BoundingBox}
use Rattle.osm_box.specs.declared.bounding_box.BoxFault.{BoxFault}
use Rattle.osm_box.specs.declared.bounding_box.BoxFault.TheVariants.{Shape, Digit}
use Rattle.osm_box.specs.BoundingBox.{box_of_edges}

-- what comes before and after the first byte c, if it is there
abbrev pub cut_of : ℕ → List ℕ → Option (List ℕ × List ℕ)
cut_of c text = if nat_lt (position_or_len (λ b. b == c) text) (length text)
    then Some (before_first (λ b. b == c) text, after_first (λ b. b == c) text) else None

-- these are from one to `most` decimal digits
abbrev pub are_digits : ℕ → List ℕ → Bool
are_digits most text =
    nat_le 1 (length text) && (nat_le (length text) most && list_all is_ascii_digit text)

-- the number that they write
abbrev pub digits_of : ℕ → List ℕ → Option ℕ
digits_of most text = if are_digits most text then Some (digits_value 10 text) else None

-- the digits before and after the point; no point is as `.0`
abbrev pub halves_of : List ℕ → List ℕ × List ℕ
halves_of text = unwrap_or (cut_of 46 text) (text, codes "0")

-- the nanodegrees of a part without its sign: up to three digits, and up to nine after the point
abbrev pub magnitude_of : List ℕ → Option ℕ
magnitude_of text =
    let whole = (halves_of text).0 in
    let fraction = (halves_of text).1 in
    option_and_then (λ w. option_map (λ f. w * 10 ^ 9 + f * 10 ^ (9 - length fraction))
    (digits_of 9 fraction)) (digits_of 3 whole)

-- the nanodegrees of a part, with or without `-`
abbrev pub degrees_of : List ℕ → Option ℤ
degrees_of text = if slice_index text 0 == 45
    then option_map (λ n. neg_ℤ (pos n)) (magnitude_of (drop 1 text))
    else option_map pos (magnitude_of text)

pub record Parts : Type 0 where
  pub left : List ℕ
  pub bottom : List ℕ
  pub right : List ℕ
  pub top : List ℕ

-- the parts between exactly three commas
abbrev pub comma_parts : List ℕ → Option Parts
comma_parts text = option_and_then (λ p. option_and_then (λ q. option_and_then (λ r.
    if is_some (cut_of 44 r.1) then None
    else Some (record { left = p.0; bottom = q.0; right = r.0; top = r.1 }))
    (cut_of 44 q.1)) (cut_of 44 p.1)) (cut_of 44 text)

-- one that isn't a number is the fault
abbrev pub box_of_numbers : Option ℤ → Option ℤ → Option ℤ → Option ℤ → Result BoundingBox BoxFault
box_of_numbers (Some left) (Some bottom) (Some right) (Some top) = box_of_edges left bottom right top
box_of_numbers _ _ _ _ = Err Digit

abbrev pub box_of_parts : Option Parts → Result BoundingBox BoxFault
box_of_parts None = Err Shape
box_of_parts (Some p) =
    box_of_numbers (degrees_of p.left) (degrees_of p.bottom) (degrees_of p.right) (degrees_of p.top)

-- the box of the text, or its fault with the least number
unfoldable pub box_of_text : List ℕ → Result BoundingBox BoxFault
box_of_text text = box_of_parts (comma_parts text)
