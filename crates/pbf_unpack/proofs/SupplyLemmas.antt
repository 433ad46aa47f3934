-- What is supplied, and what is left.
use Rattle.std.proofs.Common.{◌≡◌, ℕ, ◌+◌, ◌-◌, ◌<◌, ◌≤◌, List, ◌++◌, length, take, drop, length-append, take-append-drop, arith}
use Rattle.std.proofs.Math.Seq.{drop-append-add}
use Rattle.std.proofs.lemmas.List.{drop-drop}
use Rattle.pbf_frame.specs.declared.frame.FrameKind.{FrameKind}
use Rattle.pbf_frame.specs.Writing.{written_at, written_frame}
use Rattle.pbf_unpack.specs.Unpacked.{unpacked_frame}

-- two joined lists without more than the first: the second without the rest
pub drop_past : (n : ℕ) (xs ys : List ℕ) → length xs ≤ n → drop n (xs ++ ys) ≡ drop (n - length xs) ys
drop_past n xs ys past = grind (arith, drop-append-add xs ys (n - length xs))

-- ---- a frame means some bytes

written_some : (k : FrameKind) (payload : List ℕ) → 0 < length (written_frame k payload)
unfolding written_frame
written_some k payload = grind (arith, length-append ((written_at 0 k payload).prefix ++ (written_at 0 k payload).header) (written_at 0 k payload).blob, length-append (written_at 0 k payload).prefix (written_at 0 k payload).header)

pub frame_some : (k : FrameKind) (at : ℕ) (frame blob : List ℕ) → 0 < length frame → 0 < length (unpacked_frame k at frame blob).0
frame_some k at frame blob some = grind (arith, written_some)

-- ---- bytes that are given

-- what was left is what was given, and what is left then
pub given : (done count : ℕ) (supplied bytes : List ℕ) → take count supplied ≡ take count (drop done bytes) → drop done bytes ≡ take count supplied ++ drop (done + count) bytes
given done count supplied bytes e = grind (arith, take-append-drop count (drop done bytes), drop-drop count done bytes)
