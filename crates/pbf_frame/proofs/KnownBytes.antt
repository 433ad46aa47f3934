-- Known bytes, put together.
use Rattle.std.proofs.Common.{◌≡◌, ℕ, ◌+◌, ◌-◌, ◌≤◌, List, [], ◌++◌, length, take, drop, Option, ap, ◌∙◌, append_assoc, length-append, arith}
use Rattle.std.proofs.lemmas.List.{append-nil, take-append-le, length-take-le, take_rest, length-drop}
use Rattle.std.proofs.Math.Seq.{take-add, take-append-add}
use Rattle.pbf_frame.specs.Devices.{prepend, append}
use borrow.Rule.Slice.PartMut.{put_mid}

pub append_append : (known : Option (List ℕ)) (xs ys : List ℕ) → append (append known xs) ys ≡ append known (xs ++ ys)
append_append known xs ys = grind (arith, append_assoc)

pub prepend_prepend : (known : Option (List ℕ)) (xs ys : List ℕ) → prepend xs (prepend ys known) ≡ prepend (xs ++ ys) known
prepend_prepend known xs ys = grind (arith, append_assoc)

pub append_none : (known : Option (List ℕ)) → append known [] ≡ known
append_none known = grind (arith, append-nil)

-- a write continues after what went out before
pub append_more : (before now after : Option (List ℕ)) (bytes : List ℕ) (n m : ℕ) → now ≡ append before (take n bytes) → after ≡ append now (take m (take (length bytes - n) (drop n bytes))) → after ≡ append before (take (n + m) bytes)
append_more before now after bytes n m e f = grind (arith, take_rest, append_append, take-add)

-- a read continues after what came in before
pub prepend_more : (before now after : Option (List ℕ)) (xs ys : List ℕ) → before ≡ prepend xs now → now ≡ prepend ys after → before ≡ prepend (xs ++ ys) after
prepend_more before now after xs ys e f = e ∙ ap (prepend xs) f ∙ prepend_prepend after xs ys

-- the filled prefix of a buffer that was read into from a on
pub take_read : (a m : ℕ) (xs ys : List ℕ) → a ≤ length xs → length ys ≡ length xs - a → m ≤ length ys → take (a + m) (put_mid a (length xs - a) xs ys) ≡ take a xs ++ take m ys
take_read a m xs ys low len within = grind (arith, length-take-le, take-append-add, take-append-le)

pub length_read : (a : ℕ) (xs ys : List ℕ) → a ≤ length xs → length ys ≡ length xs - a → length (put_mid a (length xs - a) xs ys) ≡ length xs
length_read a xs ys low len = grind (arith, length-take-le, length-drop, length-append)

pub prepend_none : (known : Option (List ℕ)) → prepend [] known ≡ known
prepend_none known = grind arith
