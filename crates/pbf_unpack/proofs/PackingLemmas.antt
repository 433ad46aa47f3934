-- What a packing drain has taken, and what the drain below took for it.
use Rattle.std.proofs.Common.{◌≡◌, ℕ, ◌+◌, ◌-◌, ◌<◌, ◌≤◌, List, [], ◌++◌, length, take, drop, Option, Some, None, Ok, true, refl, sym, ap, subst, ◌∙◌, append_assoc, length-append, take-append-drop, arith}
use Rattle.std.specs.Prelude.{IfSome}
use Rattle.std.specs.Option.{option_map}
use Rattle.std.proofs.lemmas.List.{append-nil, drop-take, length-take, take-append-le, take_at, drop_at, take_all}
use Rattle.std.proofs.Math.Seq.{take-add}
use Rattle.pbf_frame.specs.Devices.{append, HasRisen, IsFront}
use Rattle.pbf_wire.specs.Occurrence.{Occurrence, items, found}
use Rattle.pbf_wire.specs.Reading.{bytes_held, last_of}
use Rattle.pbf_wire.specs.declared.limits.TheConstants.{RAW_LIMIT}
use Rattle.pbf_frame.specs.declared.blob.TheConstants.{RAW_SIZE}
use Rattle.pbf_frame.specs.declared.frame.FrameKind.{FrameKind}
use Rattle.pbf_frame.specs.declared.frame.FrameKind.TheVariants as kind
use Rattle.pbf_frame.specs.Writing.{written_frame}
use Rattle.zlib.specs.Stream.{inflated}
use Rattle.pbf_unpack.specs.declared.below.DrainState.TheVariants.{Taking, Failed}
use Rattle.pbf_unpack.specs.DrainStates.{IsPackedAt, IsPackedAs, BeginsPacked, HasWhole}
use Rattle.pbf_unpack.specs.declared.whole.WholeFrame.{WholeFrame}
use Rattle.pbf_unpack.specs.Packed.{packed_in, fits_size}
use Rattle.pbf_unpack.specs.Unpacked.{as_they_stand, unpacked_frame, unpacked_from, unpacked}
use Rattle.pbf_unpack.specs.Whole.{MeansWhole}
use Rattle.pbf_unpack.specs.RawFrames.{GoesOn, IsOneFrame}
use Rattle.pbf_unpack.proofs.GoingOn.{goes_on_first, goes_on_more}
use Rattle.pbf_unpack.proofs.UnpackedLemmas.{joined_assoc, joined_nothing, joined_end, nothing_more}

-- ---- packed bytes, put together

-- no bytes mean none
pub packed_nothing : (place : ℕ) → IsPackedAt place [] []
packed_nothing place rest = ap (λ (n : ℕ). unpacked_from n rest) (omega arith) ∙ sym (joined_nothing (unpacked_from (place + length {A = ℕ} []) rest))

-- some, and then others
pub packed_then : (place : ℕ) (a b x y : List ℕ) → IsPackedAt place a x → IsPackedAt (place + length x) b y → IsPackedAt place (a ++ b) (x ++ y)
packed_then place a b x y first then rest = grind (arith, length-append x y, append_assoc x y rest, joined_assoc (as_they_stand a) (as_they_stand b) (unpacked_from (place + length x + length y) rest))

-- what they mean by themselves
pub packed_means : (raw packed : List ℕ) → IsPackedAs raw packed → unpacked_from 0 packed ≡ as_they_stand raw
packed_means raw packed is = grind (arith, append-nil packed, nothing_more (0 + length packed), joined_end (as_they_stand raw))

-- ---- what the drain below took, as far as it is known

-- nothing was begun
not_begun : (place : ℕ) (taken : List ℕ) → length taken ≡ place → ∥ BeginsPacked place (drop place taken) ∥₁
not_begun place taken exact =
    let none : drop place taken ≡ [] = ap (drop place) (sym (append-nil taken)) ∙ drop_at taken [] place exact in
    ∣ record { rest = []; raw = []; means = subst (λ (l : List ℕ). IsPackedAt place [] (l ++ [])) (sym none) (packed_nothing place) } ∣₁

-- at first it is nothing
pub whole_nothing : HasWhole Taking 0 []
whole_nothing = record { whole = grind (arith, nothing_more 0, packed_nothing 0); within = omega arith; begun = not_begun 0 [] refl; goes_on = subst GoesOn (sym (ap (λ u. u.0) (nothing_more 0))) goes_on_first; exact = λ _. refl }

-- whole frames, and one more
pub whole_more : (place : ℕ) (taken raw frame : List ℕ) → IsOneFrame raw → HasWhole Taking place taken → IsPackedAt place raw frame
    → HasWhole Taking (place + length frame) (taken ++ frame) × (unpacked (taken ++ frame) ≡ unpacked (take place taken) ++ raw)
whole_more place taken raw frame one has means =
    let exact : length taken ≡ place = has.exact refl in
    let all : take place taken ≡ taken = take_all place taken (omega (arith, exact)) in
    let joined : IsPackedAs (unpacked taken ++ raw) (taken ++ frame) = packed_then 0 (unpacked taken) raw taken frame (subst (λ (l : List ℕ). IsPackedAs (unpacked l) l) all has.whole) (subst (λ (n : ℕ). IsPackedAt n raw frame) (omega (arith, exact)) means) in
    let is : unpacked (taken ++ frame) ≡ unpacked taken ++ raw = ap (λ u. u.0) (packed_means (unpacked taken ++ raw) (taken ++ frame) joined) in
    let long : length (taken ++ frame) ≡ place + length frame = omega (arith, length-append taken frame, exact) in
    let whole : take (place + length frame) (taken ++ frame) ≡ taken ++ frame = take_all (place + length frame) (taken ++ frame) (omega (arith, long)) in (
      record {
        whole = subst (λ (l : List ℕ). IsPackedAs (unpacked l) l) (sym whole) (subst (λ (l : List ℕ). IsPackedAs l (taken ++ frame)) (sym is) joined);
        within = omega (arith, long);
        begun = not_begun (place + length frame) (taken ++ frame) long;
        goes_on = subst (λ (l : List ℕ). GoesOn (unpacked l)) (sym whole) (subst GoesOn (sym is) (goes_on_more (unpacked taken) raw one (subst (λ (l : List ℕ). GoesOn (unpacked l)) all has.goes_on)));
        exact = λ _. long;
      },
      is ∙ ap (λ (l : List ℕ). unpacked l ++ raw) (sym all),
    )

-- whole frames, and a part of one more
pub whole_begun : (place count : ℕ) (taken raw frame : List ℕ) → HasWhole Taking place taken → IsPackedAt place raw frame → HasWhole Failed place (taken ++ take count frame)
whole_begun place count taken raw frame has means =
    let exact : length taken ≡ place = has.exact refl in
    let front : take place (taken ++ take count frame) ≡ take place taken = grind (arith, take_at taken (take count frame) place, take_all place taken) in
    let after : drop place (taken ++ take count frame) ≡ take count frame = drop_at taken (take count frame) place exact in
    record {
      whole = subst (λ (l : List ℕ). IsPackedAs (unpacked l) l) (sym front) has.whole;
      within = omega (arith, length-append taken (take count frame), exact);
      begun = ∣ record { rest = drop count frame; raw = raw; means = rw (after, take-append-drop) means } ∣₁;
      goes_on = subst (λ (l : List ℕ). GoesOn (unpacked l)) (sym front) has.goes_on;
      exact = λ taking. absurd (cc);
    }

-- what was taken before
pub record Before (old : Option (List ℕ)) (xs taken : List ℕ) : Type 0 where
  pub first : List ℕ
  pub was : old ≡ Some first
  pub is : taken ≡ first ++ xs

pub taken_before : (old new : Option (List ℕ)) (xs taken : List ℕ) → new ≡ append old xs → new ≡ Some taken → Before old xs taken
taken_before old new xs taken h1 h2 = grind arith

-- a drain that took nothing
pub at_start : (known : Option (List ℕ)) (taken : List ℕ) → IfSome known (λ l. l ≡ []) → known ≡ Some taken → taken ≡ []
at_start known taken h1 h2 = grind arith

-- what the drain below took of one more frame: all of it, or a part
module _ (old new : Option (List ℕ)) (place : ℕ) (raw frame : List ℕ) (has : (taken : List ℕ) → old ≡ Some taken → HasWhole Taking place taken) (means : IsPackedAt place raw frame) where
  pub sent_whole : IsOneFrame raw → (end : ℕ) → end ≡ place + length frame → new ≡ append old frame → (taken : List ℕ) → new ≡ Some taken → HasWhole Taking end taken
  sent_whole one end ends added taken is =
      let before = taken_before old new frame taken added is in
      let more = (whole_more place before.first raw frame one (has before.first before.was) means).0 in
      subst (λ (n : ℕ). HasWhole Taking n taken) (sym ends) (subst (λ (l : List ℕ). HasWhole Taking (place + length frame) l) (sym before.is) more)

  pub sent_part : IsFront old new frame → (taken : List ℕ) → new ≡ Some taken → HasWhole Failed place taken
  sent_part front taken is =
      let before = taken_before old new (take front.count frame) taken front.taken is in
      subst (λ (l : List ℕ). HasWhole Failed place l) (sym before.is) (whole_begun place front.count before.first raw frame (has before.first before.was) means)

-- a count of failures that has risen isn't 0
pub has_failed : (old new : ℕ) → HasRisen old new → 0 < new
has_failed old new risen = omega (arith, risen)

-- ---- a frame in written form

-- the parts of a frame are what is put before a payload, and the payload
pub written_parts : (n m end : ℕ) (head front blob fields rest payload written : List ℕ) → end ≡ n + m → take n head ≡ front → take m (drop n head) ≡ fields → fields ++ rest ≡ blob → rest ≡ payload → take end head ++ payload ≡ written → front ++ blob ≡ written
written_parts n m end head front blob fields rest payload written counted is_front is_fields split is_rest is = grind (arith, take-add n m head, append_assoc front fields rest)

-- ---- the end of a blob

-- what comes after a place, if it is the same from there on
pub ends_same : (n end : ℕ) (xs ys : List ℕ) → n ≤ end → drop n xs ≡ drop n ys → drop n (take end xs) ≡ drop n (take end ys)
ends_same n end xs ys within same = grind (arith, drop-take n (end - n) xs, drop-take n (end - n) ys)

-- what was put there
pub put_after : (n count : ℕ) (xs ys rest : List ℕ) → n ≤ length xs → count ≤ length ys → drop n (take (n + count) (take n xs ++ (ys ++ rest))) ≡ take count ys
put_after n count xs ys rest within enough = grind (arith, drop-take n count (take n xs ++ (ys ++ rest)), drop_at (take n xs) (ys ++ rest) n, length-take n xs, take-append-le count ys rest enough)

-- ---- a packed frame means its raw one

-- a whole frame means what its blob stands for
pub whole_packs : (place : ℕ) (raw frame blob : List ℕ) (w : WholeFrame) → MeansWhole place frame blob w → w.end ≡ place + length frame → unpacked_frame w.kind w.blob_at frame blob ≡ as_they_stand raw → IsPackedAt place raw frame
whole_packs place raw frame blob w means ends is rest = grind arith

-- so does one whose data means a payload of the stated length
pub data_stands : (k : FrameKind) (at : ℕ) (frame blob payload : List ℕ) (stream : Occurrence) → (k ≡ kind.Other → ⊥) → packed_in at blob ≡ Some stream → inflated (RAW_LIMIT - 1) (bytes_held stream.content) ≡ Ok payload
    → fits_size (last_of RAW_SIZE (found (items at blob))) (length payload) ≡ true → unpacked_frame k at frame blob ≡ as_they_stand (written_frame k payload)
data_stands k at frame blob payload stream h1 h2 h3 h4 = grind arith

-- ---- the raw bytes that were taken

-- those of whole frames, and those that are held
abbrev pub raw_in : (place : ℕ) (held : List ℕ) → Option (List ℕ) → Option (List ℕ)
raw_in place held known = option_map (λ packed. unpacked (take place packed) ++ held) known

-- none, at first
pub raw_start : (known : Option (List ℕ)) → IfSome known (λ l. l ≡ []) → raw_in 0 [] known ≡ known
raw_start known h1 = grind (arith, nothing_more)

module _ (old new : Option (List ℕ)) (place : ℕ) (raw frame : List ℕ) (has : (taken : List ℕ) → old ≡ Some taken → HasWhole Taking place taken) where
  -- the same, if the frame that is held went on
  pub raw_sent : IsOneFrame raw → IsPackedAt place raw frame → (end : ℕ) (held : List ℕ) → end ≡ place + length frame → held ≡ [] → new ≡ append old frame → raw_in end held new ≡ raw_in place raw old
  raw_sent one means end held ends empty added = cases old refl where
    cases : (o : Option (List ℕ)) → old ≡ o → raw_in end held new ≡ raw_in place raw old
    cases None is = rw (added, is) refl
    cases (Some l) is = grind (arith, has l is, whole_more place l raw frame one (has l is) means, take_all end (l ++ frame), length-append l frame, append-nil (unpacked (take end (l ++ frame))))

  -- the same, if a part of the frame did
  pub raw_stuck : (held : List ℕ) → IsFront old new frame → raw_in place held new ≡ raw_in place held old
  raw_stuck held front = grind (arith, take-append-le)

-- ---- the same by a log

-- what is packed by a log, and one more frame
pub packed_more : (place : ℕ) (done raw packed frame : List ℕ) → length packed ≡ place → IsPackedAs done packed → IsPackedAt place raw frame → IsPackedAs (done ++ raw) (packed ++ frame)
packed_more place done raw packed frame counted means then = grind (arith, packed_then 0 done raw packed frame means)
