-- What was supplied, once nothing is left.
use Rattle.std.proofs.Common.{◌≡◌, ◌==◌, ◌&&◌, true, ℕ, List, [], ◌∷◌, ◌++◌, length, drop, Option, Some, None, refl, ap, length-append, arith}
use Rattle.std.specs.Option.{is_none, option_map}
use Rattle.std.proofs.lemmas.List.{append-nil}
use Rattle.std.proofs.lemmas.Option.{same_Some}
use Rattle.pbf_frame.specs.Frames.{blob_at, frame_end, frame_kind, frame_bytes, frame_at}
use Rattle.pbf_unpack.specs.declared.feed.FeedState.{FeedState}
use Rattle.pbf_unpack.specs.declared.feed.UnpackedFeed.{UnpackedFeed}
use Rattle.pbf_unpack.specs.Reports.{stop_in, has_all, GavePacked}
use Rattle.pbf_unpack.specs.Supplying.{more, unless_failed, IsEndBelow, left_in, remaining_in, HasSupplied}
use Rattle.pbf_unpack.specs.Unpacked.{unpacked_frame, unpacked_from}
use Rattle.pbf_unpack.proofs.StoredLemmas.{nothing_stored, together_none}
use Rattle.pbf_unpack.proofs.SupplyLemmas.{frame_some}
use Rattle.pbf_unpack.proofs.UnpackedLemmas.{joined_end, nothing_more, unfit, whole_long, whole_then}

pub nothing_left : (xs : List ℕ) → (length xs == 0) ≡ true → xs ≡ []
nothing_left [] is = refl
nothing_left (x ∷ xs) is = (let bad : ⊥ = (let zero : length (x ∷ xs) ≡ 0 = grind (arith, is) in omega (arith, zero)) in absurd bad)

-- bytes that mean none are none
pub means_none : (place : ℕ) (rest : List ℕ) → (unpacked_from place rest).0 ≡ [] → rest ≡ []
means_none place [] is = refl
means_none place (b ∷ bs) is =
    let f = frame_at place (b ∷ bs) in
    let all = unpacked_frame (frame_kind f) (blob_at f) (frame_bytes f) f.blob in
    let after = unpacked_from (frame_end f) (drop (length (frame_bytes f)) (b ∷ bs)) in
    grind (arith, frame_some (frame_kind f) (blob_at f) (frame_bytes f) f.blob, whole_long f, whole_then place (b ∷ bs), unfit place (b ∷ bs), length-append all.0 after.0)

joined_none : (xs ys : List ℕ) → xs ++ ys ≡ [] → ys ≡ []
joined_none [] ys is = is
joined_none (x ∷ xs) ys is = (let bad : ⊥ = (let none : length (x ∷ (xs ++ ys)) ≡ 0 = ap length is in omega (arith, none)) in absurd bad)

-- if nothing is reported to be left, the feed below is at its end
ended_below : (s : FeedState) (place : ℕ) (left : List ℕ) (known : Option (List ℕ)) → IsEndBelow s known → unless_failed s (option_map (λ bytes. left ++ (more s place bytes).0) known) ≡ Some [] → known ≡ Some []
ended_below s place left known h1 h2 = grind (arith, means_none, joined_none, same_Some)

none_joined : (xs ys : List ℕ) → xs ++ ys ≡ [] → (length xs == 0) ≡ true
none_joined [] ys is = refl
none_joined (x ∷ xs) ys is = (let bad : ⊥ = (let none : length (x ∷ (xs ++ ys)) ≡ 0 = ap length is in omega (arith, none)) in absurd bad)

all_by : (s : FeedState) (place : ℕ) (left : List ℕ) (known : Option (List ℕ)) → unless_failed s (option_map (λ bytes. left ++ (more s place bytes).0) known) ≡ Some [] → (is_none (stop_in s) && length left == 0) ≡ true
all_by s place left known h1 = grind (arith, none_joined, same_Some)

-- if nothing is reported to be left, all was supplied
pub all_supplied : {F : Type 0} (remaining : F → Option (List ℕ)) (u : UnpackedFeed F) → remaining_in remaining u ≡ Some [] → has_all u ≡ true
all_supplied remaining u is = all_by u.state u.place (left_in u) (remaining u.feed) is

pub gave_packed : {F : Type 0} (remaining : F → Option (List ℕ)) (has_passed : F → ℕ → List ℕ → Type 0) (u : UnpackedFeed F) (log : ℕ) (raw : List ℕ) → stop_in u.state ≡ None → left_in u ≡ [] → HasSupplied remaining has_passed u log raw → GavePacked remaining has_passed u log raw
gave_packed remaining has_passed u log raw none spent has = grind (arith, append-nil has.packed, joined_end ((raw ++ left_in u, u.fault)), append-nil raw, ended_below u.state u.place (left_in u) (remaining u.feed) has.ended, nothing_more, nothing_stored, together_none u.stored)

-- and so they are what the packed bytes mean
pub gave_reported : {F : Type 0} (remaining : F → Option (List ℕ)) (has_passed : F → ℕ → List ℕ → Type 0) (u : UnpackedFeed F) (log : ℕ) (raw : List ℕ) → remaining_in remaining u ≡ Some [] → HasSupplied remaining has_passed u log raw → GavePacked remaining has_passed u log raw
gave_reported remaining has_passed u log raw is has = grind (arith, all_supplied remaining u is, nothing_left (left_in u), gave_packed remaining has_passed u log raw)
